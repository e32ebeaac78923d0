use Rattle.std.proofs.Common.{◌≡◌, ◌++◌, drop, length}
use Rattle.kql_meaning.specs.Parse.{pattern_columns}
use Rattle.kql_meaning.specs.Tables.{absent_row}
use Rattle.parse_op.specs.Filled.{has_row}
use Rattle.parse_op.proofs.fill.fill_absent.Given as goal

-- what is left to add makes the whole row
abbrev pub invariant-items : goal.invariant-items
invariant-items l = record {
  columns : drop (length l.builder.row) l.builder.grid.columns ≡ pattern_columns l.left;
  filled : has_row l.builder (l.builder.row ++ absent_row (pattern_columns l.left)) ≡ has_row l.initial.builder (l.initial.builder.row ++ absent_row (pattern_columns l.initial.left));
}

abbrev pub decreases-items : goal.decreases-items
decreases-items l = length l.left
