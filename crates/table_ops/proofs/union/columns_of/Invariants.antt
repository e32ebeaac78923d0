use Rattle.std.proofs.Common.{◌≡◌, take}
use Rattle.table_ops.specs.InColumns.{columns_of, tables_lent}
use Rattle.table_ops.proofs.union.columns_of.Given as goal

-- the columns of the tables so far
abbrev pub invariant-loop-table : goal.invariant-loop-table
invariant-loop-table l = l.all ≡ columns_of (tables_lent (take l.table-index l.tables))
