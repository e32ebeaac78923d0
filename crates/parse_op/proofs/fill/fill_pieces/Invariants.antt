use Rattle.std.proofs.Common.{◌≡◌, ◌++◌, drop, length, true}
use Rattle.kql_meaning.specs.Parse.{pattern_columns, pieces_values}
use Rattle.parse_op.specs.Filled.{AreEnds, has_row}
use Rattle.parse_op.specs.Search.{ends_in, is_place}
use Rattle.parse_op.proofs.fill.fill_pieces.Given as goal

-- what is left to add makes the whole row
abbrev pub invariant-items : goal.invariant-items
invariant-items l = record {
  count : length l.ends ≡ length l.left;
  place : is_place l.text l.start ≡ true;
  ends : AreEnds l.text l.start (ends_in l.ends);
  columns : drop (length l.builder.row) l.builder.grid.columns ≡ pattern_columns l.left;
  filled : has_row l.builder (l.builder.row ++ pieces_values l.left l.text l.start (ends_in l.ends)) ≡ has_row l.initial.builder (l.initial.builder.row ++ pieces_values l.initial.left l.text 0 (ends_in l.initial.ends));
}

abbrev pub decreases-items : goal.decreases-items
decreases-items l = length l.left
