-- Tests for null, and choices among values.
use Rattle.std.specs.Prelude.{Bool, true, false, not, List, [], ◌∷◌, fold, option_map, if◌then◌else◌}
use Rattle.std.specs.Ordering.{is_lt}
unfoldable pub use Rattle.kql_cells.specs.Keys.{is_null}
use Rattle.kql_cells.specs.declared.value.Value.{Value}
use Rattle.kql_cells.specs.declared.value.Value.TheVariants as value
use Rattle.kql_functions.specs.declared.func.ChoiceFunc.{ChoiceFunc}
use Rattle.kql_functions.specs.declared.func.ChoiceFunc.TheVariants as func
use Rattle.kql_scalar_fns.specs.Arguments.{argument}
use Rattle.kql_scalar_fns.specs.Comparison.{order}
use Rattle.kql_scalar_fns.specs.Logic.{is_true, truth}

-- null or the empty text
unfoldable pub is_empty : Value → Bool
is_empty value.Null = true
is_empty (value.Text []) = true
is_empty _ = false

-- a where the condition is true, else b
unfoldable pub chosen : Value → Value → Value → Value
chosen c a b = if is_true (truth c) then a else b

-- conditions and values in turn, and a last value: the value after the first true condition, else the last
unfoldable pub first_case : List Value → Value
first_case [] = value.Null
first_case (v ∷ []) = v
first_case (c ∷ v ∷ more) = if is_true (truth c) then v else first_case more

-- the first that is not empty, else the last
unfoldable pub first_given : List Value → Value
first_given [] = value.Null
first_given (v ∷ []) = v
first_given (v ∷ w ∷ more) = if is_empty v then first_given (w ∷ more) else v

-- whether a is below b
abbrev pub is_below : Value → Value → Bool
is_below a b = is_true (option_map is_lt (order a b))

-- the lesser of two, and the greater, where a null does not count
unfoldable pub lesser : Value → Value → Value
lesser a b = if is_null a then b else if is_below b a then b else a

unfoldable pub greater : Value → Value → Value
greater a b = if is_null a then b else if is_below a b then b else a

-- the least and the greatest of those that are not null
unfoldable pub least : List Value → Value
least vs = fold lesser value.Null vs

unfoldable pub greatest : List Value → Value
greatest vs = fold greater value.Null vs

-- what each function gives
unfoldable pub choice : ChoiceFunc → List Value → Value
choice func.IsNull args = value.Bool (is_null (argument args 0))
choice func.IsNotNull args = value.Bool (not (is_null (argument args 0)))
choice func.IsEmpty args = value.Bool (is_empty (argument args 0))
choice func.IsNotEmpty args = value.Bool (not (is_empty (argument args 0)))
choice func.Iff args = chosen (argument args 0) (argument args 1) (argument args 2)
choice func.Case args = first_case args
choice func.Coalesce args = first_given args
choice func.MinOf args = least args
choice func.MaxOf args = greatest args
