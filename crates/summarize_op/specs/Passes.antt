-- One pass over rows: a fold for each group.
use Rattle.std.specs.Prelude.{◌≡◌, ℕ, List, [], true, map}
use Rattle.std.specs.List.{list_all, range_with_len}
use Rattle.kql_cells.specs.Table.{Grid}
use Rattle.kql_cells.specs.declared.schema.Column.{Column}
use Rattle.kql_cells.specs.declared.value.Value.{Value}
use Rattle.kql_values.specs.Grids.{row_of}
use Rattle.kql_keys.specs.Places.{places_of}
use Rattle.kql_bound.specs.declared.expr.BExpr.{BExpr}
use Rattle.kql_meaning.specs.declared.position.Position.TheVariants as position
use Rattle.kql_meaning.specs.Expressions.{val}
use Rattle.kql_meaning.specs.FittingExpressions.{expr_fits, scope_of}
use Rattle.kql_meaning.specs.Tables.{places}
use Rattle.agg_folds.specs.Folds.{folded}
use Rattle.agg_folds.specs.States.{Kept, fold_of}
use Rattle.agg_folds.specs.declared.call.FoldCall.{FoldCall}

-- Arguments, in which stand neither aggregates nor window functions.
pub record AreArguments (columns : List Column) (es : List BExpr) : Type 0 where
  pub each : list_all (λ e. expr_fits e (scope_of columns) position.Plain) es ≡ true

-- The values of an argument at all rows, and those of each argument.
unfoldable pub argument_column : BExpr → Grid → List Value
argument_column e t = map (λ i. val e t i []) (places t)

unfoldable pub argument_columns : List BExpr → Grid → List (List Value)
argument_columns es t = map (λ e. argument_column e t) es

-- What the arguments are at the rows of a number.
unfoldable pub group_args : List (List Value) → List ℕ → ℕ → List (List Value)
group_args columns numbers g = map (row_of columns) (places_of numbers g)

-- The folds of these, one for each number, and their values.
unfoldable pub folds_of : FoldCall → List (List Value) → List ℕ → ℕ → List Kept
folds_of call columns numbers count = map (λ g. fold_of call (group_args columns numbers g)) (range_with_len 0 count)

unfoldable pub folded_over : FoldCall → List (List Value) → List ℕ → ℕ → List Value
folded_over call columns numbers count = map (λ g. folded call (group_args columns numbers g)) (range_with_len 0 count)
