use Rattle.std.proofs.Common.{◌≡◌, map, take}
use Rattle.table_ops.specs.InColumns.{column_in}
use Rattle.table_ops.proofs.in_columns.vectors_in.Given as goal

-- the columns so far
abbrev pub invariant-loop-column : goal.invariant-loop-column
invariant-loop-column l = l.vectors.items ≡ map (column_in l.t) (take l.column-index l.columns)
