-- Groups of rows: the rows with the same key, keys in order of first occurrence. A null is a key like another.
use Rattle.std.specs.Prelude.{ℕ, Bool, not, List, [], filter, map}
use Rattle.std.specs.List.{list_any}
use Rattle.kql_cells.specs.Table.{Grid, gathered}
use Rattle.kql_cells.specs.declared.value.Value.{Value}
use Rattle.kql_bound.specs.declared.parts.BItem.{BItem}
use Rattle.kql_meaning.specs.Expressions.{val}
use Rattle.kql_meaning.specs.Tables.{distinct_by, places, places_below}
use Rattle.kql_meaning.specs.Values.{same_keys}

-- The distinct keys of a table's rows in order of first occurrence, where a function gives each row's key.
unfoldable pub distinct_keys : (ℕ → List Value) → Grid → List (List Value)
distinct_keys key t = distinct_by same_keys (map key (places t))

-- The group of a key: its rows, in their order.
unfoldable pub group_of : (ℕ → List Value) → Grid → List Value → Grid
group_of key t k = gathered t (filter (λ i. same_keys (key i) k) (places t))

-- Whether no earlier row has the same key.
unfoldable pub is_first_of_key : (ℕ → List Value) → ℕ → Bool
is_first_of_key key i = not (list_any (λ j. same_keys (key j) (key i)) (places_below i))

-- The first row of each key, in order.
unfoldable pub firsts_of_keys : (ℕ → List Value) → Grid → Grid
firsts_of_keys key t = gathered t (filter (is_first_of_key key) (places t))

-- The key of a row by expressions.
unfoldable pub key_by : List BItem → Grid → ℕ → List Value
key_by keys t i = map (λ (b : BItem). val b.expr t i []) keys
