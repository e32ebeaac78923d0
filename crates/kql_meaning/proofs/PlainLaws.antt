-- The equations of `is_plain`, one for each variant of an expression.
use Rattle.std.proofs.Common.{◌≡◌, ℕ, Bool, true, false, List, [], ◌∷◌, map, refl, ap, sym, ◌∙◌}
use Rattle.std.specs.Prelude.{◌&&◌}
use Rattle.std.specs.List.{list_all}
use Rattle.kql_functions.specs.declared.func.Func.{Func}
use Rattle.kql_functions.specs.declared.aggregate.Aggregate.{Aggregate}
use Rattle.kql_bound.specs.declared.expr.BExpr.{BExpr, fold-roll-BExpr}
use Rattle.kql_bound.specs.declared.expr.BExpr.TheOpen.{BExpr-F}
use Rattle.kql_bound.specs.declared.expr.BExpr.TheVariants as V
use Rattle.kql_bound.specs.declared.expr.ChainSign.{ChainSign}
use Rattle.kql_bound.specs.declared.expr.StepColumn.{StepColumn}
use Rattle.kql_functions.specs.declared.window.Window.{Window}
use Rattle.kql_bound.specs.declared.literal.Lit.{Lit}
use Rattle.kql_meaning.specs.RowByRow.{is_plain, is_plain_step}

-- Whether all links of a chain are plain.
abbrev pub links_plain : List (ChainSign × BExpr) → Bool
links_plain links = list_all (λ (l : ChainSign × BExpr). is_plain l.1) links

all-map : (es : List BExpr) → list_all (λ b. b) (map is_plain es) ≡ list_all is_plain es
all-map [] = refl
all-map (e ∷ es) = ap (λ b. is_plain e && b) (all-map es)

all-links : (links : List (ChainSign × BExpr)) → list_all (λ (l : ChainSign × Bool). l.1) (map {B = ChainSign × Bool} (λ (l : ChainSign × BExpr). (l.0, is_plain l.1)) links) ≡ links_plain links
all-links [] = refl
all-links (l ∷ ls) = ap (λ b. is_plain l.1 && b) (all-links ls)

pub plain-Literal : (l : Lit) → is_plain (V.Literal l) ≡ true
unfolding is_plain
plain-Literal l = ap is_plain (sym (V.rolls-Literal l)) ∙ fold-roll-BExpr Bool is_plain_step (BExpr-F.Literal l)

pub plain-Column : (n : List ℕ) → is_plain (V.Column n) ≡ true
unfolding is_plain
plain-Column n = ap is_plain (sym (V.rolls-Column n)) ∙ fold-roll-BExpr Bool is_plain_step (BExpr-F.Column n)

pub plain-Step : (c : StepColumn) → is_plain (V.Step c) ≡ true
unfolding is_plain
plain-Step c = ap is_plain (sym (V.rolls-Step c)) ∙ fold-roll-BExpr Bool is_plain_step (BExpr-F.Step c)

pub plain-Call : (f : Func) (args : List BExpr) → is_plain (V.Call f args) ≡ list_all is_plain args
unfolding is_plain
plain-Call f args = ap is_plain (sym (V.rolls-Call f args)) ∙ (fold-roll-BExpr Bool is_plain_step (BExpr-F.Call f args) ∙ all-map args)

pub plain-Chain : (first : BExpr) (links : List (ChainSign × BExpr)) → is_plain (V.Chain first links) ≡ is_plain first && links_plain links
unfolding is_plain
plain-Chain first links = ap is_plain (sym (V.rolls-Chain first links)) ∙ (fold-roll-BExpr Bool is_plain_step (BExpr-F.Chain first links) ∙ ap (λ b. is_plain first && b) (all-links links))

pub plain-Path : (whole : BExpr) (steps : List BExpr) → is_plain (V.Path whole steps) ≡ is_plain whole && list_all is_plain steps
unfolding is_plain
plain-Path whole steps = ap is_plain (sym (V.rolls-Path whole steps)) ∙ (fold-roll-BExpr Bool is_plain_step (BExpr-F.Path whole steps) ∙ ap (λ b. is_plain whole && b) (all-map steps))

pub plain-Window : (f : Window) (args : List BExpr) → is_plain (V.Window f args) ≡ false
unfolding is_plain
plain-Window f args = ap is_plain (sym (V.rolls-Window f args)) ∙ fold-roll-BExpr Bool is_plain_step (BExpr-F.Window f args)

pub plain-Aggregate : (f : Aggregate) (args : List BExpr) → is_plain (V.Aggregate f args) ≡ false
unfolding is_plain
plain-Aggregate f args = ap is_plain (sym (V.rolls-Aggregate f args)) ∙ fold-roll-BExpr Bool is_plain_step (BExpr-F.Aggregate f args)

pub ruleset plain_steps = (plain-Literal, plain-Column, plain-Step, plain-Call, plain-Chain, plain-Path, plain-Window, plain-Aggregate)
