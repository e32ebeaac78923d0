-- Expressions over so many rows of a table from a row on, column by column.
use Rattle.std.specs.Prelude.{◌≡◌, ℕ, ◌+◌, List, [], ◌∷◌, Option, None, Some, length, map}
use Rattle.std.specs.List.{range_with_len}
use Rattle.kql_cells.specs.Seen.{value_at}
use Rattle.kql_cells.specs.Table.{Grid}
use Rattle.kql_cells.specs.declared.value.Value.{Value}
use Rattle.kql_bound.specs.declared.expr.BExpr.{BExpr}
use Rattle.kql_bound.specs.declared.expr.ChainSign.{ChainSign}
use Rattle.kql_bound.specs.declared.parts.BItem.{BItem}
use Rattle.kql_functions.specs.declared.func.Func.{Func}
use Rattle.kql_functions.specs.declared.window.Window.{Window}
use Rattle.kql_scalar_fns.specs.Applied.{applied}
use Rattle.kql_scalar_fns.specs.Arguments.{AreWellFormed}
use Rattle.kql_meaning.specs.Expressions.{reading, val, value_along, value_down, values_in}
use Rattle.kql_meaning.specs.Windows.{windowed}
use Rattle.kql_values.specs.Grids.{row_of}

-- The values of an expression, of several, and of items.
unfoldable pub values_from : BExpr → Grid → ℕ → ℕ → List Value
values_from e t from n = map (λ k. val e t (from + k) []) (range_with_len 0 n)

unfoldable pub columns_of : List BExpr → Grid → ℕ → ℕ → List (List Value)
columns_of es t from n = map (λ e. values_from e t from n) es

unfoldable pub columns_of_items : List BItem → Grid → ℕ → ℕ → List (List Value)
columns_of_items items t from n = map (λ (b : BItem). values_from b.expr t from n) items

-- Columns of so many well-formed values.
unfoldable pub AreColumns : ℕ → List (List Value) → Type 0
AreColumns n [] = Unit {0}
AreColumns n (vs ∷ rest) = ((length vs ≡ n) × AreWellFormed vs) × AreColumns n rest

-- One of them.
pub record IsColumn (n : ℕ) (values : List Value) : Type 0 where
  pub count : length values ≡ n
  pub form : AreWellFormed values

-- What a function gives for the values at each row of columns.
unfoldable pub applied_down : Func → ℕ → List (List Value) → List Value
applied_down f n args = map (λ k. applied f (row_of args k)) (range_with_len 0 n)

-- What it gives for the values of expressions.
unfoldable pub call_down : Func → List BExpr → Grid → ℕ → ℕ → List Value
call_down f args t from n = map (λ k. applied f (values_in args t (from + k) [])) (range_with_len 0 n)

-- What a function of two values gives for a column and an expression.
unfoldable pub linked_down : Func → BExpr → Grid → ℕ → ℕ → List Value → List Value
linked_down f right t from n left = map (λ k. applied f (value_at left k ∷ val right t (from + k) [] ∷ [])) (range_with_len 0 n)

-- What the signs of a chain, and the steps of a path, make of a first column.
unfoldable pub chain_down : List (ChainSign × BExpr) → Grid → ℕ → ℕ → List Value → List Value
chain_down links t from n first = map (λ k. value_along links t (from + k) [] (value_at first k)) (range_with_len 0 n)

unfoldable pub path_down : List BExpr → Grid → ℕ → ℕ → List Value → List Value
path_down steps t from n whole = map (λ k. value_down steps t (from + k) [] (value_at whole k)) (range_with_len 0 n)

-- What a window function gives.
unfoldable pub window_down : Window → List BExpr → Grid → ℕ → ℕ → List Value
window_down f args t from n = map (λ k. windowed f (map reading args) t (from + k) []) (range_with_len 0 n)

-- The values of an expression, where there is one.
unfoldable pub given_from : Option BExpr → Grid → ℕ → ℕ → Option (List Value)
given_from None t from n = None
given_from (Some e) t from n = Some (values_from e t from n)
