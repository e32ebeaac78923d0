-- Calls of aggregates over groups.
use Rattle.std.specs.Prelude.{◌≡◌, Bool, ℕ, List, [], true, false, map}
use Rattle.std.specs.List.{range_with_len}
use Rattle.kql_cells.specs.Table.{Grid}
use Rattle.kql_cells.specs.declared.schema.Column.{Column}
use Rattle.kql_functions.specs.declared.aggregate.Aggregate.{Aggregate}
use Rattle.kql_functions.specs.declared.aggregate.Aggregate.TheVariants as aggregate
use Rattle.kql_bound.specs.declared.expr.BExpr.{BExpr}
use Rattle.kql_meaning.specs.declared.position.Position.TheVariants as position
use Rattle.kql_meaning.specs.FittingExpressions.{aggregate_fits, checked_args, scope_of}
use Rattle.kql_meaning.specs.Results.{compared_values, greatest_row, has_one_result, least_row}
use Rattle.summarize_op.specs.Groups.{group_at}

-- A call that fits, with one result column or several.
pub record IsCall (columns : List Column) (f : Aggregate) (args : List BExpr) : Type 0 where
  pub fits : aggregate_fits f (checked_args args) (scope_of columns) position.Group ≡ true

-- A call with one result column.
pub record HasOne (f : Aggregate) (args : List BExpr) : Type 0 where
  pub one : has_one_result f args ≡ true

-- Whether an aggregate gives what its arguments are at the first row, and at the row of the greatest or least value.
unfoldable pub is_first : Aggregate → Bool
is_first aggregate.TakeAny = true
is_first _ = false

unfoldable pub is_best : Aggregate → Bool
is_best aggregate.ArgMax = true
is_best aggregate.ArgMin = true
is_best _ = false

-- The row of the greatest value, and for `arg_min` of the least.
unfoldable pub best_row : Aggregate → List BExpr → Grid → ℕ
best_row aggregate.ArgMin args t = least_row (compared_values args t [])
best_row _ args t = greatest_row (compared_values args t [])

unfoldable pub best_rows : Aggregate → List BExpr → Grid → List ℕ → ℕ → List ℕ
best_rows f args t numbers count = map (λ g. best_row f args (group_at t numbers g)) (range_with_len 0 count)
