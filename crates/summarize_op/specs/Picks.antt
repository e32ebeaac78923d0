-- Columns at one row of each group.
use Rattle.std.specs.Prelude.{ℕ, List, [], Option, None, Some, map, slice_get, slice_index_or}
use Rattle.std.specs.List.{range_with_len}
use Rattle.kql_cells.specs.Table.{Grid}
use Rattle.kql_cells.specs.declared.value.Value.{Value}
use Rattle.kql_keys.specs.Places.{places_of}
use Rattle.kql_bound.specs.declared.expr.BExpr.{BExpr}
use Rattle.kql_meaning.specs.Expressions.{val}
use Rattle.kql_meaning.specs.Tables.{emptied}
use Rattle.agg_folds.specs.Folds.{chosen_row}
use Rattle.agg_folds.specs.declared.call.FoldCall.{FoldCall}
use Rattle.summarize_op.specs.Passes.{group_args}

-- The row of each number at a place among the number's rows, where there is such a row.
unfoldable pub picked_rows : List ℕ → ℕ → List ℕ → List (Option ℕ)
picked_rows numbers count ks = map (λ g. slice_get (places_of numbers g) (slice_index_or ks g 0)) (range_with_len 0 count)

-- The value of an expression at a row; where there is none, over a table without rows.
abbrev pub at_row : BExpr → Grid → Option ℕ → Value
at_row e t None = val e (emptied t) 0 []
at_row e t (Some i) = val e t i []

unfoldable pub picked : BExpr → Grid → List (Option ℕ) → List Value
picked e t rows = map (at_row e t) rows

unfoldable pub all_picked : List BExpr → Grid → List (Option ℕ) → List (List Value)
all_picked es t rows = map (λ e. picked e t rows) es

-- The place that each fold chose among the rows of its number.
unfoldable pub chosen_over : FoldCall → List (List Value) → List ℕ → ℕ → List ℕ
chosen_over call columns numbers count = map (λ g. chosen_row call (group_args columns numbers g)) (range_with_len 0 count)
