-- The arguments of a call, and the values that results become.
use Rattle.std.specs.Prelude.{ℕ, ℤ, Bool, List, Option, None, Some, All, slice_index_or}
use Rattle.kql_cells.specs.Values.{IsWellFormed}
use Rattle.kql_cells.specs.declared.value.Value.{Value}
use Rattle.kql_cells.specs.declared.value.Value.TheVariants as value

-- the argument at a place; one that is not given is null
unfoldable pub argument : List Value → ℕ → Value
argument args i = slice_index_or args i value.Null

-- each of these is well formed
pub record AreWellFormed (values : List Value) : Type 0 where
  pub each : All IsWellFormed values

-- a result, or null for none
abbrev pub bool_or_null : Option Bool → Value
bool_or_null None = value.Null
bool_or_null (Some b) = value.Bool b

abbrev pub long_or_null : Option ℤ → Value
long_or_null None = value.Null
long_or_null (Some n) = value.Long n

abbrev pub moment_or_null : Option ℤ → Value
moment_or_null None = value.Null
moment_or_null (Some n) = value.Moment n

abbrev pub span_or_null : Option ℤ → Value
span_or_null None = value.Null
span_or_null (Some n) = value.Span n
