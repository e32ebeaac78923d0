use Rattle.std.proofs.Common.{◌≡◌, map, take}
use Rattle.kql_cells.specs.Seen.{seen}
use Rattle.plan_constants.specs.Literals.{value_in}
use Rattle.plan_constants.proofs.calls.cells_of.Given as goal

abbrev pub invariant-loop-lit : goal.invariant-loop-lit
invariant-loop-lit l = map seen l.cells.items ≡ map value_in (take l.lit-index l.literals)
