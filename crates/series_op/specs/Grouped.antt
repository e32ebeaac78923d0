-- The groups of rows that are stored by columns.
use Rattle.std.specs.Prelude.{◌≡◌, ℕ, List, filter, length, map}
use Rattle.std.specs.List.{range_with_len}
use Rattle.kql_cells.specs.declared.value.Value.{Value}
use Rattle.kql_values.specs.Grids.{HaveLength, row_of, rows_of}
use Rattle.kql_meaning.specs.Tables.{distinct_by}
use Rattle.kql_meaning.specs.Values.{same_keys}

-- The distinct rows in order of first occurrence.
unfoldable pub rows_once : List (List Value) → ℕ → List (List Value)
rows_once columns count = distinct_by same_keys (rows_of count columns)

-- The places of the rows that are the same as one.
unfoldable pub places_like : List (List Value) → ℕ → List Value → List ℕ
places_like columns count k = filter (λ r. same_keys k (row_of columns r)) (range_with_len 0 count)

-- Columns whose rows are the distinct ones, and for each of them the places of the rows that are the same.
pub record AreGrouped (columns : List (List Value)) (count : ℕ) (keys : List (List Value)) (groups : List (List ℕ)) : Type 0 where
  pub long : HaveLength (length groups) keys
  pub keys_once : rows_of (length groups) keys ≡ rows_once columns count
  pub places : groups ≡ map (places_like columns count) (rows_once columns count)
