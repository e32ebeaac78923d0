use Rattle.std.proofs.Common.{◌≡◌, ◌∷◌, take}
use Rattle.table_ops.specs.InColumns.{tables_lent}
use Rattle.table_ops.proofs.UnionFacts.{rows_so_far}
use Rattle.table_ops.proofs.union.tables_in.Given as goal

-- the rows of the tables so far
abbrev pub invariant-tables : goal.invariant-tables
invariant-tables l = l.made ≡ record { columns = l.columns; lines = rows_so_far l.columns (l.first ∷ take l.other-index (tables_lent l.others)) }
