use Rattle.std.proofs.Common.{◌↔◌, length, map}
use Rattle.kql_cells.specs.Seen.{seen}
use Rattle.kql_scalar_fns.specs.Arguments.{AreWellFormed}
use Rattle.kql_scalar_fns.proofs.well_formed.are_well_formed.Given as goal

abbrev pub invariant-cells : goal.invariant-cells
invariant-cells l = AreWellFormed (map seen l.left) ↔ AreWellFormed (map seen l.fn.cells)

abbrev pub decreases-cells : goal.decreases-cells
decreases-cells l = length l.left
