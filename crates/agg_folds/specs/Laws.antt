-- What folds are to the aggregates of `kql_meaning`.
use Rattle.std.specs.Prelude.{◌≡◌, true, ℤ, List, [], All, FitsSigned, Some, map, take}
use Rattle.std.specs.Int.{w64}
use Rattle.kql_cells.specs.Table.{Grid}
use Rattle.kql_cells.specs.Values.{IsOfKind}
use Rattle.kql_cells.specs.declared.value.Kind.{Kind}
use Rattle.kql_cells.specs.declared.value.Value.{Value}
use Rattle.kql_functions.specs.declared.aggregate.Aggregate.{Aggregate}
use Rattle.kql_functions.specs.declared.aggregate.Aggregate.TheVariants as aggregate
use Rattle.kql_bound.specs.declared.expr.BExpr.{BExpr}
use Rattle.kql_scalar_fns.specs.Arguments.{argument}
use Rattle.kql_meaning.specs.Aggregates.{aggregated}
use Rattle.kql_meaning.specs.Expressions.{reading, values_in}
use Rattle.kql_meaning.specs.FittingExpressions.{aggregate_takes}
use Rattle.kql_meaning.specs.Results.{compared_values, greatest_row, least_row}
use Rattle.kql_meaning.specs.Tables.{places}
use Rattle.kql_meaning.specs.Values.{number_of}
use Rattle.agg_folds.specs.Calls.{call_of, needs}
use Rattle.agg_folds.specs.Folds.{chosen_row, folded}

-- A value of a type, or null, whose number is one of 64 bits, where it is a number.
pub record IsLike (k : Kind) (v : Value) : Type 0 where
  pub kind : IsOfKind k v
  pub number : (n : ℤ) → number_of v ≡ Some n → FitsSigned w64 n

-- The first arguments at these rows and at those are of one type.
pub record HaveOneKind (rows more : List (List Value)) : Type 0 where
  pub kind : Kind
  pub each : All (λ row. IsLike kind (argument row 0)) rows
  pub further : All (λ row. IsLike kind (argument row 0)) more

-- What the arguments that an aggregate reads are at each row of a table.
unfoldable pub argument_rows : Aggregate → List BExpr → Grid → List (List Value)
argument_rows f args t = map (λ i. values_in (take (needs f) args) t i []) (places t)

-- A call that fits has the value of the fold of its arguments at the rows of the group, of which there may be none.
abbrev pub FoldIsAggregate : Type 0
FoldIsAggregate = (f : Aggregate) (args : List BExpr) (t : Grid) → aggregate_takes f args t.columns ≡ true → aggregated f (map reading args) t [] ≡ folded (call_of f args t.columns) (argument_rows f args t)

-- The row that is chosen is that of which the further result columns are.
abbrev pub ChosenIsGreatest : Type 0
ChosenIsGreatest = (args : List BExpr) (t : Grid) → greatest_row (compared_values args t []) ≡ chosen_row (call_of aggregate.ArgMax args t.columns) (argument_rows aggregate.ArgMax args t)

abbrev pub ChosenIsLeast : Type 0
ChosenIsLeast = (args : List BExpr) (t : Grid) → least_row (compared_values args t []) ≡ chosen_row (call_of aggregate.ArgMin args t.columns) (argument_rows aggregate.ArgMin args t)
