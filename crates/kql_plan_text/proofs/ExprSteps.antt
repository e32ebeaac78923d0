-- The equations of `expr_text`, one for each variant.
use Rattle.std.proofs.Common.{◌≡◌, ℕ, List, [], ◌∷◌, ◌++◌, map, refl, ap, sym, ◌∙◌}
use Rattle.std.specs.Prelude.{codes}
use Rattle.kql_functions.specs.Names.{func_name}
use Rattle.kql_functions.specs.declared.func.Func.{Func}
use Rattle.kql_plan_text.specs.Exprs.{call_text, chain_end, chain_front, expr_step, expr_text, path_end, path_front, step_text, with_commas}
use Rattle.kql_plan_text.specs.Literals.{lit_text, name_text}
use Rattle.kql_functions.specs.Names.{aggregate_name, window_name}
use Rattle.kql_functions.specs.declared.aggregate.Aggregate.{Aggregate}
use Rattle.kql_bound.specs.declared.expr.BExpr.{BExpr, fold-roll-BExpr}
use Rattle.kql_bound.specs.declared.expr.BExpr.TheOpen.{BExpr-F}
use Rattle.kql_bound.specs.declared.expr.BExpr.TheVariants as V
use Rattle.kql_bound.specs.declared.expr.StepColumn.{StepColumn}
use Rattle.kql_functions.specs.declared.window.Window.{Window}
use Rattle.kql_bound.specs.declared.literal.Lit.{Lit}
use Rattle.kql_plan_text.proofs.Chains.{Links, chain-split, path-split}
use Rattle.kql_plan_text.proofs.Separated.{join_by-map}

pub expr_text-Literal : (l : Lit) → expr_text (V.Literal l) ≡ lit_text l
unfolding expr_text
expr_text-Literal l = ap expr_text (sym (V.rolls-Literal l)) ∙ fold-roll-BExpr (List ℕ) expr_step (BExpr-F.Literal l)

pub expr_text-Column : (n : List ℕ) → expr_text (V.Column n) ≡ name_text n
unfolding expr_text
expr_text-Column n = ap expr_text (sym (V.rolls-Column n)) ∙ fold-roll-BExpr (List ℕ) expr_step (BExpr-F.Column n)

pub expr_text-Step : (c : StepColumn) → expr_text (V.Step c) ≡ step_text c
unfolding expr_text
expr_text-Step c = ap expr_text (sym (V.rolls-Step c)) ∙ fold-roll-BExpr (List ℕ) expr_step (BExpr-F.Step c)

pub expr_text-Call : (f : Func) (args : List BExpr) → expr_text (V.Call f args) ≡ call_text (func_name f) (with_commas expr_text args)
unfolding expr_text
expr_text-Call f args = ap expr_text (sym (V.rolls-Call f args))
    ∙ (fold-roll-BExpr (List ℕ) expr_step (BExpr-F.Call f args) ∙ ap (call_text (func_name f)) (join_by-map (λ (t : List ℕ). t) expr_text (codes ",") args))

pub expr_text-Window : (f : Window) (args : List BExpr) → expr_text (V.Window f args) ≡ call_text (window_name f) (with_commas expr_text args)
unfolding expr_text
expr_text-Window f args = ap expr_text (sym (V.rolls-Window f args))
    ∙ (fold-roll-BExpr (List ℕ) expr_step (BExpr-F.Window f args) ∙ ap (call_text (window_name f)) (join_by-map (λ (t : List ℕ). t) expr_text (codes ",") args))

pub expr_text-Aggregate : (f : Aggregate) (args : List BExpr) → expr_text (V.Aggregate f args) ≡ call_text (aggregate_name f) (with_commas expr_text args)
unfolding expr_text
expr_text-Aggregate f args = ap expr_text (sym (V.rolls-Aggregate f args))
    ∙ (fold-roll-BExpr (List ℕ) expr_step (BExpr-F.Aggregate f args) ∙ ap (call_text (aggregate_name f)) (join_by-map (λ (t : List ℕ). t) expr_text (codes ",") args))

pub expr_text-Chain : (first : BExpr) (links : Links) → expr_text (V.Chain first links) ≡ chain_front links ++ (expr_text first ++ chain_end links)
unfolding expr_text
expr_text-Chain first links = ap expr_text (sym (V.rolls-Chain first links))
    ∙ (fold-roll-BExpr (List ℕ) expr_step (BExpr-F.Chain first links) ∙ chain-split (expr_text first) links)

pub expr_text-Path : (whole : BExpr) (steps : List BExpr) → expr_text (V.Path whole steps) ≡ path_front steps ++ (expr_text whole ++ path_end steps)
unfolding expr_text
expr_text-Path whole steps = ap expr_text (sym (V.rolls-Path whole steps))
    ∙ (fold-roll-BExpr (List ℕ) expr_step (BExpr-F.Path whole steps) ∙ path-split (expr_text whole) steps)

pub ruleset expr_steps = (expr_text-Literal, expr_text-Column, expr_text-Step, expr_text-Call, expr_text-Chain, expr_text-Path, expr_text-Window, expr_text-Aggregate)
