-- What a choice gives by the place of an argument.
use Rattle.std.specs.Prelude.{ℕ, List, Option, None, Some}
use Rattle.kql_cells.specs.declared.value.Value.{Value}
use Rattle.kql_cells.specs.declared.value.Value.TheVariants as value
use Rattle.kql_scalar_fns.specs.Arguments.{argument}

-- The value at a place, where there is one, and else null.
unfoldable pub given_at : Option ℕ → List Value → Value
given_at None vs = value.Null
given_at (Some k) vs = argument vs k
