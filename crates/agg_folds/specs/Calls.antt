-- What a fold needs of a call of an aggregate.
use Rattle.std.specs.Prelude.{ℕ, List, Option, None, Some, option_map, slice_get}
use Rattle.kql_cells.specs.declared.schema.Column.{Column}
use Rattle.kql_functions.specs.declared.aggregate.Aggregate.{Aggregate}
use Rattle.kql_functions.specs.declared.aggregate.Aggregate.TheVariants as aggregate
use Rattle.kql_bound.specs.declared.expr.BExpr.{BExpr}
use Rattle.kql_bound.specs.declared.literal.Lit.{Lit}
use Rattle.kql_meaning.specs.Expressions.{first_kind, kinds_in}
use Rattle.kql_meaning.specs.FittingExpressions.{literal_of}
use Rattle.kql_meaning.specs.Windows.{count_in}
use Rattle.agg_folds.specs.declared.call.FoldCall.{FoldCall}

-- How many of its arguments, from the first, an aggregate reads at each row.
unfoldable pub needs : Aggregate → ℕ
needs aggregate.Count = 0
needs aggregate.CountDistinctIf = 2
needs aggregate.SumIf = 2
needs aggregate.MinIf = 2
needs aggregate.MaxIf = 2
needs aggregate.MakeListIf = 2
needs aggregate.MakeSetIf = 2
needs _ = 1

-- The number that a literal is, where an expression is one.
unfoldable pub number_in : Option Lit → ℕ
number_in None = 0
number_in (Some l) = count_in l.value

-- How many values are kept at most: the number behind the first argument, where `make_list` or `make_set` has one.
unfoldable pub limit_of : Aggregate → List BExpr → Option ℕ
limit_of aggregate.MakeList args = option_map (λ e. number_in (literal_of e)) (slice_get args 1)
limit_of aggregate.MakeSet args = option_map (λ e. number_in (literal_of e)) (slice_get args 1)
limit_of _ args = None

unfoldable pub call_of : Aggregate → List BExpr → List Column → FoldCall
call_of f args columns = record { aggregate = f; kind = first_kind (kinds_in args columns); limit = limit_of f args }
