-- Bound arguments that are to be literals or columns.
use Rattle.std.specs.Prelude.{Bool, is_some}
use Rattle.kql_bound.specs.declared.expr.BExpr.{BExpr}
use Rattle.kql_meaning.specs.FittingExpressions.{column_of, literal_of}

unfoldable pub is_literal : BExpr → Bool
is_literal e = is_some (literal_of e)

unfoldable pub is_column : BExpr → Bool
is_column e = is_some (column_of e)
