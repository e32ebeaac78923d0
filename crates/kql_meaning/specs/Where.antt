-- `where`: the rows whose predicate is true, in order.
use Rattle.std.specs.Prelude.{[], filter}
use Rattle.kql_cells.specs.Table.{Grid, gathered}
use Rattle.kql_bound.specs.declared.expr.BExpr.{BExpr}
use Rattle.kql_meaning.specs.Expressions.{val}
use Rattle.kql_meaning.specs.Tables.{places}
use Rattle.kql_meaning.specs.Values.{holds}

unfoldable pub where_table : BExpr → Grid → Grid
where_table predicate t = gathered t (filter (λ i. holds (val predicate t i [])) (places t))
