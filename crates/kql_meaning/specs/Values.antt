-- Values as cells, as keys and as numbers.
use Rattle.std.specs.Prelude.{Bool, Option, None, Some, ℤ}
use Rattle.kql_cells.specs.declared.value.Kind.{Kind}
use Rattle.kql_cells.specs.declared.value.Kind.TheVariants as kind
use Rattle.kql_cells.specs.declared.value.Value.{Value}
use Rattle.kql_cells.specs.declared.value.Value.TheVariants as value
unfoldable pub use Rattle.kql_cells.specs.Keys.{absent, same_key, same_keys}
use Rattle.kql_scalar_fns.specs.Logic.{is_true, truth}

-- The same of an expression's type, which one that fits has.
unfoldable pub absent_as : Option Kind → Value
absent_as None = value.Null
absent_as (Some k) = absent k

-- Whether a condition has come true: a null has not.
unfoldable pub holds : Value → Bool
holds v = is_true (truth v)

-- The number that a long, a datetime or a timespan is.
unfoldable pub number_of : Value → Option ℤ
number_of (value.Long n) = Some n
number_of (value.Moment n) = Some n
number_of (value.Span n) = Some n
number_of _ = None

-- A number as a long, a datetime or a timespan.
unfoldable pub number_as : Kind → ℤ → Value
number_as kind.Long n = value.Long n
number_as kind.Moment n = value.Moment n
number_as kind.Span n = value.Span n
number_as _ n = value.Null
