-- Which keys match, and the pairs of rows whose keys do.
use Rattle.std.specs.Prelude.{ℕ, Bool, not, ◌&&◌, List, map, flat_map}
use Rattle.std.specs.List.{list_any, range_with_len}
use Rattle.kql_cells.specs.declared.value.Value.{Value}
use Rattle.kql_values.specs.Grids.{row_of}
use Rattle.kql_keys.specs.Numbers.{places_from}
use Rattle.kql_cells.specs.Keys.{is_null, same_keys}

-- whether a key has a null
unfoldable pub has_null : List Value → Bool
has_null key = list_any is_null key

-- whether two keys match: they are the same and have no null
abbrev pub keys_match : List Value → List Value → Bool
keys_match a b = same_keys a b && not (has_null a)

-- the places of the keys that match, rising
unfoldable pub matches_in : List (List Value) → List Value → List ℕ
matches_in keys k = places_from 0 (keys_match k) keys

-- for each left row, in order, the pairs with its matches, rising
unfoldable pub pairs_of : List (List Value) → ℕ → List (List Value) → List (ℕ × ℕ)
pairs_of columns count keys = flat_map (λ i. map (λ j. (i, j)) (matches_in keys (row_of columns i))) (range_with_len 0 count)
