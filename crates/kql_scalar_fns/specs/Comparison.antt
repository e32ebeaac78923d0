-- Comparisons of values of one type, and of a value with those of a list.
use Rattle.std.specs.Prelude.{Bool, true, false, not, List, [], ◌∷◌, drop, map, Option, None, Some, option_map}
use Rattle.std.specs.List.{flat_map, list_any}
use Rattle.std.specs.Ordering.{int_cmp, int_eq, is_ge, is_gt, is_le, is_lt}
use Rattle.std.specs.declared.cmp.Ordering.{Ordering}
use Rattle.kql_dynamic.specs.Parts.{elements, value_of}
use Rattle.kql_texts.specs.declared.folding.Fold.{Fold}
use Rattle.kql_texts.specs.declared.folding.Fold.TheVariants.{Caseless, Exact}
use Rattle.kql_texts.specs.Folding.{folded}
use Rattle.kql_texts.specs.Texts.{same}
use Rattle.kql_cells.specs.declared.dynamic.Dyn.{Dyn}
use Rattle.kql_cells.specs.declared.value.Kind.{Kind}
use Rattle.kql_cells.specs.declared.value.Kind.TheVariants as kind
use Rattle.kql_cells.specs.declared.value.Value.{Value}
use Rattle.kql_cells.specs.declared.value.Value.TheVariants as value
use Rattle.kql_functions.specs.declared.func.ComparisonFunc.{ComparisonFunc}
use Rattle.kql_functions.specs.declared.func.ComparisonFunc.TheVariants as func
use Rattle.kql_scalar_fns.specs.Arguments.{argument, bool_or_null}
use Rattle.kql_scalar_fns.specs.Arithmetic.{sum}
use Rattle.kql_scalar_fns.specs.Conversion.{to_bool, to_long, to_moment, to_span}
use Rattle.kql_scalar_fns.specs.Logic.{both, is_true, opposite}
use Rattle.kql_scalar_fns.specs.Readings.{text_of}

abbrev pub same_bools : Bool → Bool → Bool
same_bools true b = b
same_bools false b = not b

-- whether two values are the same: not known of two nulls, and false of a null and another value
unfoldable pub equality : Value → Value → Option Bool
equality value.Null value.Null = None
equality (value.Bool a) (value.Bool b) = Some (same_bools a b)
equality (value.Long a) (value.Long b) = Some (int_eq a b)
equality (value.Text a) (value.Text b) = Some (same a b)
equality (value.Moment a) (value.Moment b) = Some (int_eq a b)
equality (value.Span a) (value.Span b) = Some (int_eq a b)
equality _ _ = Some false

-- the order of two numbers of one type; not known where one is null
unfoldable pub order : Value → Value → Option Ordering
order (value.Long a) (value.Long b) = Some (int_cmp a b)
order (value.Moment a) (value.Moment b) = Some (int_cmp a b)
order (value.Span a) (value.Span b) = Some (int_cmp a b)
order _ _ = None

-- whether two texts are the same without case
unfoldable pub text_equality : Value → Value → Option Bool
text_equality (value.Text a) (value.Text b) = Some (same (folded Caseless a) (folded Caseless b))
text_equality _ _ = None

-- the first of these, and without case the second
unfoldable pub alike : Fold → Value → Value → Option Bool
alike Exact a b = equality a b
alike Caseless a b = text_equality a b

-- a value in the type of another
unfoldable pub in_type_of : Value → Value → Value
in_type_of (value.Bool _) v = to_bool v
in_type_of (value.Long _) v = to_long v
in_type_of (value.Text _) v = value.Text (text_of v)
in_type_of (value.Moment _) v = to_moment v
in_type_of (value.Span _) v = to_span v
in_type_of _ v = v

-- what an operand of a list stands for: the elements of an array, and else itself
abbrev pub elements_or_itself : Value → Option (List Dyn) → List Value
elements_or_itself v None = v ∷ []
elements_or_itself v (Some ds) = map value_of ds

unfoldable pub members : Value → List Value
members (value.Dynamic d) = elements_or_itself (value.Dynamic d) (elements d)
members v = v ∷ []

-- whether a value of a list is alike, in the type of the value that is looked for
unfoldable pub is_match : Fold → Value → Value → Bool
is_match fold x v = is_true (alike fold x (in_type_of x v))

-- whether one of the values of a list is: `x in (a, b, ..)`, and without case `x in~ (a, b, ..)`
unfoldable pub is_among : Fold → Value → List Value → Bool
is_among fold x operands = list_any (λ w. list_any (is_match fold x) (members w)) operands

-- a value in a type
unfoldable pub in_kind : Kind → Value → Value
in_kind kind.Bool v = to_bool v
in_kind kind.Long v = to_long v
in_kind kind.Text v = value.Text (text_of v)
in_kind kind.Moment v = to_moment v
in_kind kind.Span v = to_span v
in_kind kind.Dynamic v = v

-- the values of a list in one type
unfoldable pub values_in : Kind → List Value → List Value
values_in k operands = flat_map (λ w. map (in_kind k) (members w)) operands

-- the upper end of a range from a: b, or a + b where b is a timespan beside a datetime x
unfoldable pub upper_end : Value → Value → Value → Value
upper_end (value.Moment x) a (value.Span b) = sum a (value.Span b)
upper_end _ a b = b

-- whether a <= x and x <= b
unfoldable pub is_between : Value → Value → Value → Option Bool
is_between x a b = both (option_map is_le (order a x)) (option_map is_le (order x (upper_end x a b)))

-- what each comparison gives
unfoldable pub comparison : ComparisonFunc → List Value → Value
comparison func.Equal args = bool_or_null (equality (argument args 0) (argument args 1))
comparison func.NotEqual args = bool_or_null (opposite (equality (argument args 0) (argument args 1)))
comparison func.Less args = bool_or_null (option_map is_lt (order (argument args 0) (argument args 1)))
comparison func.AtMost args = bool_or_null (option_map is_le (order (argument args 0) (argument args 1)))
comparison func.Greater args = bool_or_null (option_map is_gt (order (argument args 0) (argument args 1)))
comparison func.AtLeast args = bool_or_null (option_map is_ge (order (argument args 0) (argument args 1)))
comparison func.EqualText args = bool_or_null (text_equality (argument args 0) (argument args 1))
comparison func.NotEqualText args = bool_or_null (opposite (text_equality (argument args 0) (argument args 1)))
comparison func.In args = value.Bool (is_among Exact (argument args 0) (drop 1 args))
comparison func.NotIn args = value.Bool (not (is_among Exact (argument args 0) (drop 1 args)))
comparison func.InTexts args = value.Bool (is_among Caseless (argument args 0) (drop 1 args))
comparison func.NotInTexts args = value.Bool (not (is_among Caseless (argument args 0) (drop 1 args)))
comparison func.Between args = bool_or_null (is_between (argument args 0) (argument args 1) (argument args 2))
comparison func.NotBetween args = bool_or_null (opposite (is_between (argument args 0) (argument args 1) (argument args 2)))
