-- The result columns of an expression. `arg_max`, `arg_min` and `take_any` have one for each argument, and all else has one.
use Rattle.std.specs.Prelude.{ℕ, ◌==◌, Bool, true, List, [], ◌∷◌, drop, length, map, unwrap_or}
use Rattle.std.specs.List.{position_or_len}
use Rattle.kql_cells.specs.Table.{Grid}
use Rattle.kql_cells.specs.declared.schema.Column.{Column}
use Rattle.kql_cells.specs.declared.value.Kind.{Kind}
use Rattle.kql_cells.specs.declared.value.Kind.TheVariants as kind
use Rattle.kql_cells.specs.declared.value.Value.{Value}
use Rattle.kql_scalar_fns.specs.Choice.{greatest, least}
use Rattle.kql_functions.specs.declared.aggregate.Aggregate.{Aggregate}
use Rattle.kql_functions.specs.declared.aggregate.Aggregate.TheVariants as aggregate
use Rattle.kql_bound.specs.declared.expr.BExpr.{BExpr, out-BExpr}
use Rattle.kql_bound.specs.declared.expr.BExpr.TheOpen.{BExpr-F}
use Rattle.kql_meaning.specs.Aggregates.{all_values}
use Rattle.kql_meaning.specs.Expressions.{kind_of, reading, val, values_in}
use Rattle.kql_meaning.specs.Readings.{Records, reading_at}
use Rattle.kql_meaning.specs.Values.{same_key}

-- Whether a call has one result column: `arg_max`, `arg_min` and `take_any` have one for each argument.
unfoldable pub has_one_result : Aggregate → List BExpr → Bool
has_one_result aggregate.ArgMax args = length args == 1
has_one_result aggregate.ArgMin args = length args == 1
has_one_result aggregate.TakeAny args = length args == 1
has_one_result _ args = true

-- Their types.

-- The type of an expression. One that fits has a type; of another it does not matter what stands here.
unfoldable pub typed : BExpr → List Column → Kind
typed e columns = unwrap_or (kind_of e columns) kind.Dynamic

-- The types of the result columns of an expression: `arg_max`, `arg_min` and `take_any` have one for each argument.
unfoldable pub aggregate_result_kinds : Aggregate → List BExpr → Kind → List Column → List Kind
aggregate_result_kinds aggregate.ArgMax args one columns = map (λ a. typed a columns) args
aggregate_result_kinds aggregate.ArgMin args one columns = map (λ a. typed a columns) args
aggregate_result_kinds aggregate.TakeAny args one columns = map (λ a. typed a columns) args
aggregate_result_kinds _ args one columns = one ∷ []

abbrev pub result_kinds_step : BExpr-F BExpr → Kind → List Column → List Kind
result_kinds_step (BExpr-F.Aggregate f args) one columns = aggregate_result_kinds f args one columns
result_kinds_step _ one columns = one ∷ []

unfoldable pub result_kinds : BExpr → List Column → List Kind
result_kinds e columns = result_kinds_step (out-BExpr e) (typed e columns) columns

-- Their values.

-- The first row whose value is this one; the number of values where none is.
unfoldable pub row_of : Value → List Value → ℕ
row_of v vs = position_or_len (same_key v) vs

-- The row that `arg_max` takes: the first with the greatest value that is not null, and the first where all are null.
unfoldable pub greatest_row : List Value → ℕ
greatest_row vs = row_of (greatest vs) vs

-- The row that `arg_min` takes.
unfoldable pub least_row : List Value → ℕ
least_row vs = row_of (least vs) vs

-- The values of the first argument at all rows.
unfoldable pub compared_values : List BExpr → Grid → Records → List Value
compared_values args t s = all_values (reading_at (map reading args) 0) t s

-- The values of the result columns of an expression: the greatest or least value and the further arguments at its row, or the
-- arguments at the first row; where there is no row they are absent.
abbrev pub results_step : BExpr-F BExpr → Value → Grid → Records → List Value
results_step (BExpr-F.Aggregate aggregate.ArgMax args) v t s = v ∷ values_in (drop 1 args) t (greatest_row (compared_values args t s)) s
results_step (BExpr-F.Aggregate aggregate.ArgMin args) v t s = v ∷ values_in (drop 1 args) t (least_row (compared_values args t s)) s
results_step (BExpr-F.Aggregate aggregate.TakeAny args) v t s = values_in args t 0 s
results_step _ v t s = v ∷ []

unfoldable pub results : BExpr → Grid → ℕ → Records → List Value
results e t i s = results_step (out-BExpr e) (val e t i s) t s
