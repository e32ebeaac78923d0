-- What contracts see of an expression whose columns are places.
use Rattle.std.specs.Prelude.{List}
use Rattle.kql_cells.specs.declared.schema.Column.{Column}
use Rattle.kql_bound.specs.declared.expr.BExpr.{BExpr}

-- An expression, and the columns of the tables that it is evaluated over.
pub record Placed : Type 0 where
  pub expr : BExpr
  pub columns : List Column
