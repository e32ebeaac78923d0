use Rattle.std.proofs.Common.{◌≡◌, take, map}
use Rattle.kql_cells.specs.Seen.{seen}
use Rattle.kql_values.proofs.vectors.cells_of_values.Given as goal

abbrev pub invariant-loop-value : goal.invariant-loop-value
invariant-loop-value l = map seen l.cells.items ≡ take l.value-index l.row
