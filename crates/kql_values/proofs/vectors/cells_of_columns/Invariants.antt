use Rattle.std.proofs.Common.{◌≡◌, take, map}
use Rattle.kql_values.specs.Grids.{row_of}
use Rattle.kql_cells.specs.Seen.{seen}
use Rattle.kql_values.proofs.vectors.cells_of_columns.Given as goal

abbrev pub invariant-loop-column : goal.invariant-loop-column
invariant-loop-column l = map seen l.cells.items ≡ row_of (take l.column-index l.columns.items) l.i
