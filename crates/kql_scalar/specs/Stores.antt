-- Comparisons of what a column stores with a constant.
use Rattle.std.specs.Prelude.{ℕ, ℤ, pos, Bool, true, false, not, List, Option, None, Some, slice_index_or}
use Rattle.std.specs.Ordering.{int_cmp, int_eq, is_ge, is_gt, is_le, is_lt}
use Rattle.std.specs.Str.{bytes_eq}
use Rattle.kql_cells.specs.Seen.{value_at}
use Rattle.kql_cells.specs.declared.value.Value.{Value}
use Rattle.kql_functions.specs.declared.func.ComparisonFunc.{ComparisonFunc}
use Rattle.kql_functions.specs.declared.func.ComparisonFunc.TheVariants as comparison_func
use Rattle.kql_values.specs.Nullable.{unless_null}
use Rattle.kql_values.specs.declared.store.Numbers.{Numbers}
use Rattle.kql_scalar.specs.Rows.{compares}

-- Whether a comparison of the value at a place with a value is true.
unfoldable pub value_compares : ComparisonFunc → List Value → Value → ℕ → Bool
value_compares f values w i = compares f (value_at values i) w

-- Whether a comparison with a number looks at the number alone: the first six.
unfoldable pub is_number_test : ComparisonFunc → Bool
is_number_test comparison_func.Equal = true
is_number_test comparison_func.NotEqual = true
is_number_test comparison_func.Less = true
is_number_test comparison_func.AtMost = true
is_number_test comparison_func.Greater = true
is_number_test comparison_func.AtLeast = true
is_number_test _ = false

-- Whether a comparison with a text looks at the bytes alone.
unfoldable pub is_text_test : ComparisonFunc → Bool
is_text_test comparison_func.Equal = true
is_text_test comparison_func.NotEqual = true
is_text_test _ = false

-- The number at a place, or null.
unfoldable pub number_at : Numbers → ℕ → Option ℤ
number_at n i = unless_null (slice_index_or n.numbers.now i (pos 0)) (slice_index_or n.nulls.now i false)

-- Whether one of the first six is true of a number, or null, and a number. A null is not the number, and neither below nor above it.
unfoldable pub number_test : ComparisonFunc → Option ℤ → ℤ → Bool
number_test comparison_func.Equal (Some m) n = int_eq m n
number_test comparison_func.NotEqual (Some m) n = not (int_eq m n)
number_test comparison_func.Less (Some m) n = is_lt (int_cmp m n)
number_test comparison_func.AtMost (Some m) n = is_le (int_cmp m n)
number_test comparison_func.Greater (Some m) n = is_gt (int_cmp m n)
number_test comparison_func.AtLeast (Some m) n = is_ge (int_cmp m n)
number_test comparison_func.NotEqual None n = true
number_test _ _ n = false

-- Whether one of the first two is true of two texts.
unfoldable pub text_test : ComparisonFunc → List ℕ → List ℕ → Bool
text_test comparison_func.Equal a b = bytes_eq a b
text_test comparison_func.NotEqual a b = not (bytes_eq a b)
text_test _ a b = false
