use Rattle.std.proofs.Common.{take}
use Rattle.kql_values.specs.Grids.{ColumnsFit}
use Rattle.kql_values.proofs.vectors.empty_columns.Given as goal

abbrev pub invariant-loop-column : goal.invariant-loop-column
invariant-loop-column l = ColumnsFit (take l.column-index l.schema) 0 l.columns.items
