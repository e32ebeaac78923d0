use Rattle.std.proofs.Common.{◌↔◌, length, map}
use Rattle.kql_cells.specs.Seen.{seen}
use Rattle.kql_cells.specs.Table.{RowFits}
use Rattle.kql_values.proofs.fitting.cells_fit.Given as goal

abbrev pub invariant-cells : goal.invariant-cells
invariant-cells l = RowFits l.columns_left (map seen l.left) ↔ RowFits l.fn.columns (map seen l.fn.row)

abbrev pub decreases-cells : goal.decreases-cells
decreases-cells l = length l.columns_left
