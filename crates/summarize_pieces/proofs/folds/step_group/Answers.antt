use Rattle.std.proofs.Common.{◌∙◌, ap, map, subst, sym}
use Rattle.kql_cells.specs.Seen.{seen}
use Rattle.kql_scalar_fns.specs.Arguments.{AreWellFormed}
use Rattle.summarize_pieces.proofs.PassSteps.{row-formed}
use Rattle.summarize_pieces.proofs.folds.step_group.Goals as goal

pub step_at-requires-in_default-clause-form : goal.step_at-requires-in_default-clause-form
step_at-requires-in_default-clause-form c = subst AreWellFormed (sym (ap (map seen) c.as_slice.ensures.value ∙ c.in_ok-cells-in_default.ensures.cells)) (row-formed c.args.columns.now c.args.i c.requires.place c.requires.form)
