-- Expressions that fit at the rows of a table: in a position in which no aggregate may stand.
use Rattle.std.specs.Prelude.{◌≡◌, ◌≤◌, ℕ, ◌+◌, true, List, length}
use Rattle.std.specs.List.{list_all}
use Rattle.kql_cells.specs.Table.{Grid}
use Rattle.kql_cells.specs.declared.schema.Column.{Column}
use Rattle.kql_bound.specs.declared.expr.BExpr.{BExpr}
use Rattle.kql_bound.specs.declared.expr.ChainSign.{ChainSign}
use Rattle.kql_meaning.specs.declared.position.Position.{Position}
use Rattle.kql_meaning.specs.FittingExpressions.{expr_fits, links_fit, scope_of}
use Rattle.kql_scalar.specs.Scalar.{is_of_rows}
use Rattle.window_ops.specs.Calls.{AreBefore, calls_along, calls_in, calls_of}
use Rattle.window_ops.specs.Carries.{Carried}

pub record FitsRows (columns : List Column) (e : BExpr) : Type 0 where
  pub at : Position
  pub rows : is_of_rows at ≡ true
  pub fits : expr_fits e (scope_of columns) at ≡ true

-- The same of several, in one position.
pub record AllFitRows (columns : List Column) (es : List BExpr) : Type 0 where
  pub at : Position
  pub rows : is_of_rows at ≡ true
  pub each : list_all (λ e. expr_fits e (scope_of columns) at) es ≡ true

-- The same of the parts of a chain behind its first.
pub record LinksFitRows (columns : List Column) (links : List (ChainSign × BExpr)) : Type 0 where
  pub at : Position
  pub rows : is_of_rows at ≡ true
  pub each : links_fit links (scope_of columns) at ≡ true

-- What is asked for an expression to be evaluated at so many rows of a table from a row on: it fits, the rows are there, and the
-- carries of the rows before them begin with those of its calls.
pub record IsReady (e : BExpr) (t : Grid) (from n : ℕ) (cs : List Carried) : Type 0 where
  pub fits : FitsRows t.columns e
  pub range : from + n ≤ length t.lines
  pub carries : AreBefore (calls_of e) t from cs

-- The same of several, and of the parts of a chain behind its first.
pub record AreReady (es : List BExpr) (t : Grid) (from n : ℕ) (cs : List Carried) : Type 0 where
  pub fits : AllFitRows t.columns es
  pub range : from + n ≤ length t.lines
  pub carries : AreBefore (calls_in es) t from cs

pub record LinksReady (links : List (ChainSign × BExpr)) (t : Grid) (from n : ℕ) (cs : List Carried) : Type 0 where
  pub fits : LinksFitRows t.columns links
  pub range : from + n ≤ length t.lines
  pub carries : AreBefore (calls_along links) t from cs
