-- The rows that `arg_max` and `arg_min` take.
use Rattle.std.specs.Prelude.{◌≡◌, ◌≢◌, ◌<◌, ℕ, Bool, List, length, slice_index_or, Contains, IsFalse}
use Rattle.kql_cells.specs.declared.value.Value.{Value}
use Rattle.kql_cells.specs.declared.value.Value.TheVariants as value
use Rattle.kql_scalar_fns.specs.Choice.{greatest, is_below, least}
use Rattle.kql_meaning.specs.Results.{greatest_row, least_row}

-- The value at a place.
abbrev pub value_at : List Value → ℕ → Value
value_at vs i = slice_index_or vs i value.Null

-- None of the values beats that of a row, which is null only where all are, and no earlier row has the same value.
pub record IsFirstBest (beats : Value → Value → Bool) (vs : List Value) (i : ℕ) : Type 0 where
  pub in_range : i < length vs
  pub unbeaten : (v : Value) → Contains vs v → IsFalse (beats v (value_at vs i))
  pub given : value_at vs i ≡ value.Null → (v : Value) → Contains vs v → v ≡ value.Null
  pub first : (j : ℕ) → j < i → value_at vs j ≢ value_at vs i

-- The greatest row is such a row, where one that is above another beats it.
abbrev pub GreatestRowIsFirst : Type 0
GreatestRowIsFirst = (vs : List Value) → 0 < length vs → IsFirstBest (λ v w. is_below w v) vs (greatest_row vs)

-- The least row is such a row, where one that is below another beats it.
abbrev pub LeastRowIsFirst : Type 0
LeastRowIsFirst = (vs : List Value) → 0 < length vs → IsFirstBest is_below vs (least_row vs)

-- The greatest value and the least value are those of these rows.
abbrev pub GreatestIsOfRow : Type 0
GreatestIsOfRow = (vs : List Value) → 0 < length vs → greatest vs ≡ value_at vs (greatest_row vs)

abbrev pub LeastIsOfRow : Type 0
LeastIsOfRow = (vs : List Value) → 0 < length vs → least vs ≡ value_at vs (least_row vs)
