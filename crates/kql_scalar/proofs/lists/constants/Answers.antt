use Rattle.std.proofs.Common.{◌<◌, List, [], length, map, subst, sym, arith}
use Rattle.std.proofs.lemmas.Grind.{common_steps}
use Rattle.kql_cells.specs.Seen.{seen}
use Rattle.kql_cells.specs.declared.cell.CellRef.{CellRef}
use Rattle.kql_scalar.specs.Lists.{AreConstants}
use Rattle.kql_scalar.proofs.ListSteps.{constants-none, constants-turn}
use Rattle.kql_scalar.proofs.lists.constants.Goals as goal

pub parts-init : goal.parts-init
parts-init c = subst (λ (cells : List CellRef). AreConstants [] c.args._t.now (map seen cells)) (sym c.in_ok-cells.ensures.items) (constants-none c.args._t.now)

pub parts-preserved : goal.parts-preserved
parts-preserved c =
    let lt : c.parts.part-index < length c.args.parts.now = grind (arith, common_steps) in
    constants-turn c.args.parts.now c.parts.part-index c.part-item.result c.in-Literal.lit c.args._t.now c.parts.cells.items _ c.as_cell.result c.requires lt c.part-item.is c.in-Literal.is c.as_cell.ensures.same c.in_ok-push-in-Literal.ensures.items c.parts.invariant
