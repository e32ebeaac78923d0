use Rattle.std.proofs.Common.{◌↔◌, length}
use Rattle.kql_cells.specs.Table.{RowFits}
use Rattle.kql_cells.proofs.row.row_fits.Given as goal

abbrev pub invariant-cells : goal.invariant-cells
invariant-cells l = RowFits l.columns_left l.left ↔ RowFits l.fn.columns l.fn.row

abbrev pub decreases-cells : goal.decreases-cells
decreases-cells l = length l.columns_left
