-- What the aggregates give, over what their arguments are at each row in place of a table.
use Rattle.std.specs.Prelude.{ℕ, List, [], ◌∷◌, Option, None, Some, filter_map, if◌then◌else◌, take}
use Rattle.std.specs.Int.{int_bit_and, int_bit_or, int_bit_xor, w64}
use Rattle.kql_cells.specs.declared.value.Kind.{Kind}
use Rattle.kql_cells.specs.declared.value.Value.{Value}
use Rattle.kql_functions.specs.declared.aggregate.Aggregate.{Aggregate}
use Rattle.kql_functions.specs.declared.aggregate.Aggregate.TheVariants as aggregate
use Rattle.kql_scalar_fns.specs.Arguments.{argument}
use Rattle.kql_scalar_fns.specs.Choice.{greatest, least}
use Rattle.kql_meaning.specs.Aggregates.{combined, distinct_given, given, listed}
use Rattle.kql_meaning.specs.Numbers.{counted, fitted, sum_of}
use Rattle.kql_meaning.specs.Results.{greatest_row, least_row}
use Rattle.kql_meaning.specs.Values.{absent_as, holds}
use Rattle.agg_folds.specs.declared.call.FoldCall.{FoldCall}

-- A value, where a condition is true.
unfoldable pub where_true : Value → Value → Option Value
where_true p v = if holds p then Some v else None

-- The value that is aggregated of a row, where the row counts. A row is what the arguments are at it.
unfoldable pub taken : Aggregate → List Value → Option Value
taken aggregate.CountIf row = where_true (argument row 0) (argument row 0)
taken aggregate.CountDistinctIf row = where_true (argument row 1) (argument row 0)
taken aggregate.SumIf row = where_true (argument row 1) (argument row 0)
taken aggregate.MinIf row = where_true (argument row 1) (argument row 0)
taken aggregate.MaxIf row = where_true (argument row 1) (argument row 0)
taken aggregate.MakeListIf row = where_true (argument row 1) (argument row 0)
taken aggregate.MakeSetIf row = where_true (argument row 1) (argument row 0)
taken _ row = Some (argument row 0)

unfoldable pub taken_of : Aggregate → List (List Value) → List Value
taken_of f rows = filter_map (taken f) rows

-- The first n, where there is a limit.
unfoldable pub up_to : Option ℕ → List Value → List Value
up_to None vs = vs
up_to (Some n) vs = take n vs

-- The first value; without one what stands in a column of the type where there is no value.
unfoldable pub first_or_absent : Option Kind → List Value → Value
first_or_absent kind [] = absent_as kind
first_or_absent kind (v ∷ vs) = v

-- What an aggregate gives for the values that it took.
unfoldable pub value_by : Aggregate → Option Kind → Option ℕ → List Value → Value
value_by aggregate.Count kind limit vs = counted vs
value_by aggregate.CountIf kind limit vs = counted vs
value_by aggregate.CountDistinct kind limit vs = counted (distinct_given vs)
value_by aggregate.CountDistinctIf kind limit vs = counted (distinct_given vs)
value_by aggregate.Sum kind limit vs = fitted kind (sum_of vs)
value_by aggregate.SumIf kind limit vs = fitted kind (sum_of vs)
value_by aggregate.Min kind limit vs = least vs
value_by aggregate.MinIf kind limit vs = least vs
value_by aggregate.Max kind limit vs = greatest vs
value_by aggregate.MaxIf kind limit vs = greatest vs
value_by aggregate.MakeList kind limit vs = listed (up_to limit (given vs))
value_by aggregate.MakeListIf kind limit vs = listed (up_to limit (given vs))
value_by aggregate.MakeSet kind limit vs = listed (up_to limit (distinct_given vs))
value_by aggregate.MakeSetIf kind limit vs = listed (up_to limit (distinct_given vs))
value_by aggregate.ArgMax kind limit vs = greatest vs
value_by aggregate.ArgMin kind limit vs = least vs
value_by aggregate.TakeAny kind limit vs = first_or_absent kind vs
value_by aggregate.BinaryAllAnd kind limit vs = combined (int_bit_and w64) vs
value_by aggregate.BinaryAllOr kind limit vs = combined (int_bit_or w64) vs
value_by aggregate.BinaryAllXor kind limit vs = combined (int_bit_xor w64) vs

-- What a call gives for its rows.
unfoldable pub folded : FoldCall → List (List Value) → Value
folded call rows = value_by call.aggregate call.kind call.limit (taken_of call.aggregate rows)

-- The place, among the values that were taken, of the one that is chosen: the first with the greatest or least value, and else the first.
-- For `arg_max`, `arg_min` and `take_any` it is that of the row.
unfoldable pub row_by : Aggregate → List Value → ℕ
row_by aggregate.Max vs = greatest_row vs
row_by aggregate.MaxIf vs = greatest_row vs
row_by aggregate.ArgMax vs = greatest_row vs
row_by aggregate.Min vs = least_row vs
row_by aggregate.MinIf vs = least_row vs
row_by aggregate.ArgMin vs = least_row vs
row_by _ vs = 0

unfoldable pub chosen_row : FoldCall → List (List Value) → ℕ
chosen_row call rows = row_by call.aggregate (taken_of call.aggregate rows)
