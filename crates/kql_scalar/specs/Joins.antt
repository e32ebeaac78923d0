-- Places at which parts are not true.
use Rattle.std.specs.Prelude.{ℕ, Bool, not, List, filter, fold}
use Rattle.kql_cells.specs.Table.{Grid}
use Rattle.kql_bound.specs.declared.expr.BExpr.{BExpr}
use Rattle.kql_scalar.specs.Means.{means}
use Rattle.kql_scalar.specs.Rows.{passes}
use Rattle.kql_scalar.specs.declared.node.Node.{Node}

-- Whether an expression is not true at a row.
unfoldable pub fails : BExpr → Grid → ℕ → Bool
fails e t i = not (passes e t i)

-- Those of these places at which no part is true: each narrows what the parts before it left.
unfoldable pub failing_all : List Node → Grid → List ℕ → List ℕ
failing_all ns t places = fold (λ left n. filter (fails (means n) t) left) places ns
