use Rattle.std.proofs.Common.{◌≡◌, map, take}
use Rattle.kql_cells.specs.Seen.{seen}
use Rattle.kql_scalar.specs.Shown.{shown}
use Rattle.kql_scalar.proofs.calls.cells_of.Given as goal

abbrev pub invariant-arguments : goal.invariant-arguments
invariant-arguments l = map seen l.cells.items ≡ map shown (take l.value-index l.values)
