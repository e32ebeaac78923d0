-- The equations of `reading`, one for each variant of an expression.
use Rattle.std.proofs.Common.{◌≡◌, ℕ, List, map, ap, sym, ◌∙◌}
use Rattle.kql_functions.specs.declared.func.Func.{Func}
use Rattle.kql_functions.specs.declared.aggregate.Aggregate.{Aggregate}
use Rattle.kql_bound.specs.declared.expr.BExpr.{BExpr, fold-roll-BExpr}
use Rattle.kql_bound.specs.declared.expr.BExpr.TheOpen.{BExpr-F}
use Rattle.kql_bound.specs.declared.expr.BExpr.TheVariants as V
use Rattle.kql_bound.specs.declared.expr.ChainSign.{ChainSign}
use Rattle.kql_bound.specs.declared.expr.StepColumn.{StepColumn}
use Rattle.kql_functions.specs.declared.window.Window.{Window}
use Rattle.kql_bound.specs.declared.literal.Lit.{Lit}
use Rattle.kql_meaning.specs.Expressions.{reading, reading_step}
use Rattle.kql_meaning.specs.Readings.{Reading}

pub reading-Literal : (l : Lit) → reading (V.Literal l) ≡ reading_step (BExpr-F.Literal l)
unfolding reading
reading-Literal l = ap reading (sym (V.rolls-Literal l)) ∙ fold-roll-BExpr Reading reading_step (BExpr-F.Literal l)

pub reading-Column : (n : List ℕ) → reading (V.Column n) ≡ reading_step (BExpr-F.Column n)
unfolding reading
reading-Column n = ap reading (sym (V.rolls-Column n)) ∙ fold-roll-BExpr Reading reading_step (BExpr-F.Column n)

pub reading-Step : (c : StepColumn) → reading (V.Step c) ≡ reading_step (BExpr-F.Step c)
unfolding reading
reading-Step c = ap reading (sym (V.rolls-Step c)) ∙ fold-roll-BExpr Reading reading_step (BExpr-F.Step c)

pub reading-Call : (f : Func) (args : List BExpr) → reading (V.Call f args) ≡ reading_step (BExpr-F.Call f (map reading args))
unfolding reading
reading-Call f args = ap reading (sym (V.rolls-Call f args)) ∙ fold-roll-BExpr Reading reading_step (BExpr-F.Call f args)

pub reading-Chain : (first : BExpr) (links : List (ChainSign × BExpr)) → reading (V.Chain first links) ≡ reading_step (BExpr-F.Chain (reading first) (map (λ (l : ChainSign × BExpr). (l.0, reading l.1)) links))
unfolding reading
reading-Chain first links = ap reading (sym (V.rolls-Chain first links)) ∙ fold-roll-BExpr Reading reading_step (BExpr-F.Chain first links)

pub reading-Path : (whole : BExpr) (steps : List BExpr) → reading (V.Path whole steps) ≡ reading_step (BExpr-F.Path (reading whole) (map reading steps))
unfolding reading
reading-Path whole steps = ap reading (sym (V.rolls-Path whole steps)) ∙ fold-roll-BExpr Reading reading_step (BExpr-F.Path whole steps)

pub reading-Window : (f : Window) (args : List BExpr) → reading (V.Window f args) ≡ reading_step (BExpr-F.Window f (map reading args))
unfolding reading
reading-Window f args = ap reading (sym (V.rolls-Window f args)) ∙ fold-roll-BExpr Reading reading_step (BExpr-F.Window f args)

pub reading-Aggregate : (f : Aggregate) (args : List BExpr) → reading (V.Aggregate f args) ≡ reading_step (BExpr-F.Aggregate f (map reading args))
unfolding reading
reading-Aggregate f args = ap reading (sym (V.rolls-Aggregate f args)) ∙ fold-roll-BExpr Reading reading_step (BExpr-F.Aggregate f args)

pub ruleset reading_steps = (reading-Literal, reading-Column, reading-Step, reading-Call, reading-Chain, reading-Path, reading-Window, reading-Aggregate)
