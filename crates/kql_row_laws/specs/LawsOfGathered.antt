-- What expressions without window functions and aggregates give over gathered rows: what they give at the places of these rows.
use Rattle.std.specs.Prelude.{◌≡◌, ℕ, List, IsTrue, filter, map}
use Rattle.std.specs.List.{list_all}
use Rattle.kql_cells.specs.Table.{Grid, gathered}
use Rattle.kql_functions.specs.declared.aggregate.Aggregate.{Aggregate}
use Rattle.kql_bound.specs.declared.expr.BExpr.{BExpr}
use Rattle.kql_meaning.specs.declared.position.Position.{Position}
use Rattle.kql_meaning.specs.Aggregates.{all_values, values_where}
use Rattle.kql_meaning.specs.Expressions.{reading, val}
use Rattle.kql_meaning.specs.FittingExpressions.{Scope, aggregate_fits, checked_args}
use Rattle.kql_meaning.specs.Readings.{Records}
use Rattle.kql_meaning.specs.RowByRow.{is_plain}
use Rattle.kql_meaning.specs.Tables.{places}
use Rattle.kql_meaning.specs.Values.{holds}
use Rattle.kql_row_laws.specs.Arguments.{argument_rows}

-- The values at all of them.
abbrev pub ValuesOfGathered : Type 0
ValuesOfGathered = (e : BExpr) (t : Grid) (rows : List ℕ) (s : Records) → IsTrue (is_plain e) → all_values (reading e) (gathered t rows) s ≡ map (λ i. val e t i s) rows

-- The values at those at which a condition is true.
abbrev pub ValuesWhereOfGathered : Type 0
ValuesWhereOfGathered = (e p : BExpr) (t : Grid) (rows : List ℕ) (s : Records) → IsTrue (is_plain e) → IsTrue (is_plain p) → values_where (reading e) (reading p) (gathered t rows) s ≡ map (λ i. val e t i s) (filter (λ i. holds (val p t i s)) rows)

-- The values of several arguments.
abbrev pub ArgumentsOfGathered : Type 0
ArgumentsOfGathered = (args : List BExpr) (t : Grid) (rows : List ℕ) (s : Records) → IsTrue (list_all is_plain args) → argument_rows args (gathered t rows) (places (gathered t rows)) s ≡ argument_rows args t rows s

-- The arguments of an aggregate that fits.
abbrev pub AggregateArgumentsArePlain : Type 0
AggregateArgumentsArePlain = (f : Aggregate) (args : List BExpr) (scope : Scope) (at : Position) → IsTrue (aggregate_fits f (checked_args args) scope at) → IsTrue (list_all is_plain args)
