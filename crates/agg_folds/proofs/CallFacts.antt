-- The number that a literal is, form by form.
use Rattle.std.proofs.Common.{◌≡◌, ℕ, List, ap}
use Rattle.kql_functions.specs.declared.aggregate.Aggregate.{Aggregate}
use Rattle.kql_functions.specs.declared.func.Func.{Func}
use Rattle.kql_functions.specs.declared.window.Window.{Window}
use Rattle.kql_bound.specs.declared.expr.BExpr.{BExpr}
use Rattle.kql_bound.specs.declared.expr.BExpr.TheVariants as V
use Rattle.kql_bound.specs.declared.expr.ChainSign.{ChainSign}
use Rattle.kql_bound.specs.declared.expr.StepColumn.{StepColumn}
use Rattle.kql_bound.specs.declared.literal.Lit.{Lit}
use Rattle.kql_meaning.specs.FittingExpressions.{literal_of}
use Rattle.kql_meaning.specs.Windows.{count_in}
use Rattle.kql_meaning.proofs.ExpressionFitLaws.{literal-Aggregate, literal-Call, literal-Chain, literal-Column, literal-Literal, literal-Path, literal-Step, literal-Window}
use Rattle.agg_folds.specs.Calls.{number_in}

pub number-Literal : (l : Lit) → number_in (literal_of (V.Literal l)) ≡ count_in l.value
unfolding number_in
number-Literal l = ap number_in (literal-Literal l)

pub number-Column : (n : List ℕ) → number_in (literal_of (V.Column n)) ≡ 0
unfolding number_in
number-Column n = ap number_in (literal-Column n)

pub number-Step : (c : StepColumn) → number_in (literal_of (V.Step c)) ≡ 0
unfolding number_in
number-Step c = ap number_in (literal-Step c)

pub number-Call : (f : Func) (args : List BExpr) → number_in (literal_of (V.Call f args)) ≡ 0
unfolding number_in
number-Call f args = ap number_in (literal-Call f args)

pub number-Chain : (first : BExpr) (links : List (ChainSign × BExpr)) → number_in (literal_of (V.Chain first links)) ≡ 0
unfolding number_in
number-Chain first links = ap number_in (literal-Chain first links)

pub number-Path : (whole : BExpr) (steps : List BExpr) → number_in (literal_of (V.Path whole steps)) ≡ 0
unfolding number_in
number-Path whole steps = ap number_in (literal-Path whole steps)

pub number-Window : (f : Window) (args : List BExpr) → number_in (literal_of (V.Window f args)) ≡ 0
unfolding number_in
number-Window f args = ap number_in (literal-Window f args)

pub number-Aggregate : (f : Aggregate) (args : List BExpr) → number_in (literal_of (V.Aggregate f args)) ≡ 0
unfolding number_in
number-Aggregate f args = ap number_in (literal-Aggregate f args)

pub ruleset number_facts = (number-Literal, number-Column, number-Step, number-Call, number-Chain, number-Path, number-Window, number-Aggregate)
