-- The equations of `result_kinds`, the types of an expression's result columns, one for each variant of an expression.
use Rattle.std.proofs.Common.{◌≡◌, ℕ, List, [], ◌∷◌, rules}
use Rattle.kql_cells.specs.declared.schema.Column.{Column}
use Rattle.kql_functions.specs.declared.func.Func.{Func}
use Rattle.kql_functions.specs.declared.aggregate.Aggregate.{Aggregate}
use Rattle.kql_bound.specs.declared.expr.BExpr.{BExpr, the_lemmas}
use Rattle.kql_bound.specs.declared.expr.BExpr.TheVariants as V
use Rattle.kql_bound.specs.declared.expr.ChainSign.{ChainSign}
use Rattle.kql_bound.specs.declared.expr.StepColumn.{StepColumn}
use Rattle.kql_functions.specs.declared.window.Window.{Window}
use Rattle.kql_bound.specs.declared.literal.Lit.{Lit}
use Rattle.kql_meaning.specs.Results.{aggregate_result_kinds, result_kinds, typed}

pub result-Literal : (l : Lit) (columns : List Column) → result_kinds (V.Literal l) columns ≡ typed (V.Literal l) columns ∷ []
unfolding result_kinds
result-Literal l columns = search (rules, the_lemmas)

pub result-Column : (n : List ℕ) (columns : List Column) → result_kinds (V.Column n) columns ≡ typed (V.Column n) columns ∷ []
unfolding result_kinds
result-Column n columns = search (rules, the_lemmas)

pub result-Step : (c : StepColumn) (columns : List Column) → result_kinds (V.Step c) columns ≡ typed (V.Step c) columns ∷ []
unfolding result_kinds
result-Step c columns = search (rules, the_lemmas)

pub result-Call : (f : Func) (args : List BExpr) (columns : List Column) → result_kinds (V.Call f args) columns ≡ typed (V.Call f args) columns ∷ []
unfolding result_kinds
result-Call f args columns = search (rules, the_lemmas)

pub result-Chain : (first : BExpr) (links : List (ChainSign × BExpr)) (columns : List Column) → result_kinds (V.Chain first links) columns ≡ typed (V.Chain first links) columns ∷ []
unfolding result_kinds
result-Chain first links columns = search (rules, the_lemmas)

pub result-Path : (whole : BExpr) (steps : List BExpr) (columns : List Column) → result_kinds (V.Path whole steps) columns ≡ typed (V.Path whole steps) columns ∷ []
unfolding result_kinds
result-Path whole steps columns = search (rules, the_lemmas)

pub result-Window : (f : Window) (args : List BExpr) (columns : List Column) → result_kinds (V.Window f args) columns ≡ typed (V.Window f args) columns ∷ []
unfolding result_kinds
result-Window f args columns = search (rules, the_lemmas)

pub result-Aggregate : (f : Aggregate) (args : List BExpr) (columns : List Column) → result_kinds (V.Aggregate f args) columns ≡ aggregate_result_kinds f args (typed (V.Aggregate f args) columns) columns
unfolding result_kinds
result-Aggregate f args columns = search (rules, the_lemmas)

pub ruleset result_steps = (result-Literal, result-Column, result-Step, result-Call, result-Chain, result-Path, result-Window, result-Aggregate)
