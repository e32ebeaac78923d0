-- What `summarize` refuses of an expression that is bound: columns outside the arguments of an aggregate, several result columns under one
-- name, and counts that are none.
use Rattle.std.specs.Prelude.{Bool, true, false, not, ◌||◌, List, [], ◌∷◌, map}
use Rattle.std.specs.List.{list_any}
use Rattle.kql_functions.specs.declared.aggregate.Aggregate.{Aggregate}
use Rattle.kql_functions.specs.declared.aggregate.Aggregate.TheVariants as aggregate
use Rattle.kql_bound.specs.declared.expr.BExpr.{BExpr, fold-BExpr, out-BExpr, para-BExpr}
use Rattle.kql_bound.specs.declared.expr.BExpr.TheOpen.{BExpr-F}
use Rattle.kql_bound.specs.declared.expr.ChainSign.{ChainSign}
use Rattle.kql_meaning.specs.FittingExpressions.{is_count}
use Rattle.kql_meaning.specs.Results.{has_one_result}

abbrev pub bare_column_step : BExpr-F Bool → Bool
bare_column_step (BExpr-F.Literal l) = false
bare_column_step (BExpr-F.Column n) = true
bare_column_step (BExpr-F.Step c) = true
bare_column_step (BExpr-F.Call f args) = list_any (λ x. x) args
bare_column_step (BExpr-F.Chain first links) = first || list_any (λ (l : ChainSign × Bool). l.1) links
bare_column_step (BExpr-F.Path whole steps) = whole || list_any (λ x. x) steps
bare_column_step (BExpr-F.Window f args) = list_any (λ x. x) args
bare_column_step (BExpr-F.Aggregate f args) = false

-- Whether a column stands outside the arguments of an aggregate.
unfoldable pub has_bare_column : BExpr → Bool
has_bare_column = fold-BExpr Bool bare_column_step

abbrev pub several_step : BExpr-F BExpr → Bool
several_step (BExpr-F.Aggregate f args) = not (has_one_result f args)
several_step _ = false

-- Whether an expression is a call with several result columns.
unfoldable pub has_several_results : BExpr → Bool
has_several_results e = several_step (out-BExpr e)

abbrev pub is_bad_count : List BExpr → Bool
is_bad_count (x ∷ n ∷ []) = not (is_count n)
is_bad_count _ = false

abbrev pub counts_badly : Aggregate → List BExpr → Bool
counts_badly aggregate.MakeList args = is_bad_count args
counts_badly aggregate.MakeSet args = is_bad_count args
counts_badly _ args = false

-- A part, and whether it counts badly.
abbrev pub Looked : Type 0
Looked = BExpr × Bool

abbrev pub any_looked : List Looked → Bool
any_looked args = list_any (λ (a : Looked). a.1) args

abbrev pub bad_count_step : BExpr-F Looked → Bool
bad_count_step (BExpr-F.Literal l) = false
bad_count_step (BExpr-F.Column n) = false
bad_count_step (BExpr-F.Step c) = false
bad_count_step (BExpr-F.Call f args) = any_looked args
bad_count_step (BExpr-F.Chain first links) = first.1 || any_looked (map (λ (l : ChainSign × Looked). l.1) links)
bad_count_step (BExpr-F.Path whole steps) = whole.1 || any_looked steps
bad_count_step (BExpr-F.Window f args) = any_looked args
bad_count_step (BExpr-F.Aggregate f args) = counts_badly f (map (λ (a : Looked). a.0) args)

-- Whether the number of elements that `make_list` or `make_set` is given is null or negative.
unfoldable pub has_bad_count : BExpr → Bool
has_bad_count = para-BExpr Bool bad_count_step
