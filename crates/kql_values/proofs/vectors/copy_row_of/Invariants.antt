use Rattle.std.proofs.Common.{◌≡◌, take}
use Rattle.kql_values.specs.Grids.{row_of}
use Rattle.kql_values.proofs.vectors.copy_row_of.Given as goal

abbrev pub invariant-loop-column : goal.invariant-loop-column
invariant-loop-column l = l.row ≡ row_of (take l.column-index l.columns.items) l.i
