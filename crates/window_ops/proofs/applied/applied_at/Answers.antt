use Rattle.std.proofs.Common.{◌∙◌, ap, map}
use Rattle.kql_cells.specs.Seen.{seen}
use Rattle.window_ops.proofs.AppliedSteps.{form-one, form-three, form-two, formed}
use Rattle.window_ops.proofs.applied.applied_at.Goals as goal

pub apply_cells-requires : goal.apply_cells-requires
apply_cells-requires c = form-one c.args._count c.args.args.now c.args.i _ _ c.requires.columns c.requires.row c.in-len1.len_at_least c.in-len1.len_below c.a-item.is c.cell.ensures.same

pub apply_cells-requires-in-len2 : goal.apply_cells-requires-in-len2
apply_cells-requires-in-len2 c = form-two c.args._count c.args.args.now c.args.i _ _ _ _ c.requires.columns c.requires.row c.in-len2.len_at_least c.in-len2.len_below c.a-item-then-args-lt3.is c.b-item.is c.cell-in-len2.ensures.same c.cell-in-len2-2.ensures.same

pub apply_cells-requires-in-len3 : goal.apply_cells-requires-in-len3
apply_cells-requires-in-len3 c = form-three c.args._count c.args.args.now c.args.i _ _ _ _ _ _ c.requires.columns c.requires.row c.in-len3.len_at_least c.in-len3.len_below c.a-item-then-args-lt4.is c.b-item-then-args-lt4.is c.c-item.is c.cell-in-len3.ensures.same c.cell-in-len3-2.ensures.same c.cell-in-len3-3.ensures.same

pub apply_cells-requires-in_default : goal.apply_cells-requires-in_default
apply_cells-requires-in_default c = formed c.args._count c.args.args.now c.args.i (map seen c.as_slice.result.now) c.requires.columns c.requires.row (ap (map seen) c.as_slice.ensures.value ∙ c.in_ok-cells-in_default.ensures.cells)
