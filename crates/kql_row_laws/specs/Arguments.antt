-- The values of several arguments at some rows of a table.
use Rattle.std.specs.Prelude.{ℕ, List, map}
use Rattle.kql_cells.specs.Table.{Grid}
use Rattle.kql_cells.specs.declared.value.Value.{Value}
use Rattle.kql_bound.specs.declared.expr.BExpr.{BExpr}
use Rattle.kql_meaning.specs.Expressions.{values_in}
use Rattle.kql_meaning.specs.Readings.{Records}

-- For each of these rows the values of the arguments there.
unfoldable pub argument_rows : List BExpr → Grid → List ℕ → Records → List (List Value)
argument_rows args t rows s = map (λ i. values_in args t i s) rows
