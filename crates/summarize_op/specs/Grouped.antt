-- Expressions over groups of rows.
use Rattle.std.specs.Prelude.{◌≡◌, ◌<◌, ℕ, List, [], ◌∷◌, true, All, length, map}
use Rattle.std.specs.List.{list_all, range_with_len}
use Rattle.kql_cells.specs.Seen.{value_at}
use Rattle.kql_cells.specs.Table.{Grid}
use Rattle.kql_cells.specs.declared.schema.Column.{Column}
use Rattle.kql_cells.specs.declared.value.Value.{Value}
use Rattle.kql_values.specs.Grids.{row_of}
use Rattle.kql_functions.specs.declared.func.Func.{Func}
use Rattle.kql_scalar_fns.specs.Applied.{applied}
use Rattle.kql_scalar_fns.specs.Arguments.{AreWellFormed}
use Rattle.kql_bound.specs.declared.expr.BExpr.{BExpr}
use Rattle.kql_bound.specs.declared.expr.ChainSign.{ChainSign}
use Rattle.kql_meaning.specs.declared.position.Position.TheVariants as position
use Rattle.kql_meaning.specs.Expressions.{val, value_along, value_down}
use Rattle.kql_meaning.specs.FittingExpressions.{expr_fits, links_fit, scope_of}
use Rattle.summarize_op.specs.Groups.{group_at}

-- Expressions of aggregate calls and constants, which fit over groups.
pub record IsGrouped (columns : List Column) (e : BExpr) : Type 0 where
  pub holds : expr_fits e (scope_of columns) position.Group ≡ true

pub record AreGrouped (columns : List Column) (es : List BExpr) : Type 0 where
  pub each : list_all (λ e. expr_fits e (scope_of columns) position.Group) es ≡ true

pub record AreLinksGrouped (columns : List Column) (links : List (ChainSign × BExpr)) : Type 0 where
  pub each : links_fit links (scope_of columns) position.Group ≡ true

-- Numbers of a table's rows, one for each row and below a count.
pub record AreNumbers (t : Grid) (numbers : List ℕ) (count : ℕ) : Type 0 where
  pub within : All (λ n. n < count) numbers
  pub each : length numbers ≡ length t.lines

-- The values of an expression over the rows of each number.
unfoldable pub over : BExpr → Grid → List ℕ → ℕ → List Value
over e t numbers count = map (λ g. val e (group_at t numbers g) 0 []) (range_with_len 0 count)

unfoldable pub all_over : List BExpr → Grid → List ℕ → ℕ → List (List Value)
all_over es t numbers count = map (λ e. over e t numbers count) es

-- The values of a chain behind a first one, and of a path into a first one.
unfoldable pub along : List (ChainSign × BExpr) → Grid → List ℕ → ℕ → List Value → List Value
along links t numbers count first = map (λ g. value_along links (group_at t numbers g) 0 [] (value_at first g)) (range_with_len 0 count)

unfoldable pub down : List BExpr → Grid → List ℕ → ℕ → List Value → List Value
down steps t numbers count first = map (λ g. value_down steps (group_at t numbers g) 0 [] (value_at first g)) (range_with_len 0 count)

-- What a function gives for the values at each place of columns, and of two.
unfoldable pub applied_over : Func → List (List Value) → ℕ → List Value
applied_over f columns count = map (λ g. applied f (row_of columns g)) (range_with_len 0 count)

unfoldable pub applied_to_both : Func → List Value → List Value → ℕ → List Value
applied_to_both f lefts rights count = map (λ g. applied f (value_at lefts g ∷ value_at rights g ∷ [])) (range_with_len 0 count)

-- Each value of columns is well formed.
pub record AreFormed (columns : List (List Value)) : Type 0 where
  pub each : All AreWellFormed columns
