use Rattle.std.proofs.Common.{◌≡◌, filter}
use Rattle.std.specs.Prelude.{not}
use Rattle.std.specs.List.{range_with_len}
use Rattle.kql_meaning.specs.Tables.{has_column}
use Rattle.kql_values.specs.Moves.{column_of}
use Rattle.parse_op.proofs.columns.places_without.Given as goal

-- the places so far
abbrev pub invariant-columns : goal.invariant-columns
invariant-columns l = l.places ≡ filter (λ j. not (has_column (column_of l.columns j).name l.made)) (range_with_len 0 l.j)
