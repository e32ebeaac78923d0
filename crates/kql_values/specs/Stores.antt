-- The values that the stores of a column hold.
use Rattle.std.specs.Prelude.{ℕ, ℤ, Bool, List, map, Option, Some, None}
use Rattle.kql_cells.specs.declared.value.Value.{Value}
use Rattle.kql_cells.specs.declared.value.Value.TheVariants as val
use Rattle.kql_values.specs.declared.store.NumberKind.{NumberKind}
use Rattle.kql_values.specs.declared.store.NumberKind.TheVariants as number
use Rattle.kql_values.specs.declared.store.Store.{Store}
use Rattle.kql_values.specs.declared.store.Store.TheVariants as store

-- a truth value, or null
abbrev pub bool_value : Option Bool → Value
bool_value None = val.Null
bool_value (Some b) = val.Bool b

-- a number of a type, or null
abbrev pub number_value : NumberKind → Option ℤ → Value
number_value kind None = val.Null
number_value number.Long (Some n) = val.Long n
number_value number.Moment (Some n) = val.Moment n
number_value number.Span (Some n) = val.Span n

abbrev pub text_value : List ℕ → Value
text_value t = val.Text t

-- the values of a store
abbrev pub values_of : Store → List Value
values_of (store.Bools bools) = map bool_value bools
values_of (store.Numbers kind numbers) = map (number_value kind) numbers
values_of (store.Texts texts) = map text_value texts
values_of (store.Mixed values) = values
