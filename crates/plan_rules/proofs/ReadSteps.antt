-- The equations of what an expression reads and of other names, one for each variant.
use Rattle.std.proofs.Common.{◌≡◌, ℕ, Bool, true, false, List, [], ◌∷◌, map, refl, ap, sym, ◌∙◌}
use Rattle.std.specs.Prelude.{◌&&◌}
use Rattle.std.specs.List.{list_all}
use Rattle.kql_functions.specs.declared.func.Func.{Func}
use Rattle.kql_functions.specs.declared.aggregate.Aggregate.{Aggregate}
use Rattle.kql_bound.specs.declared.expr.BExpr.{BExpr, fold-roll-BExpr}
use Rattle.kql_bound.specs.declared.expr.BExpr.TheOpen.{BExpr-F}
use Rattle.kql_bound.specs.declared.expr.BExpr.TheVariants as V
use Rattle.kql_bound.specs.declared.expr.ChainSign.{ChainSign}
use Rattle.kql_bound.specs.declared.expr.StepColumn.{StepColumn}
use Rattle.kql_functions.specs.declared.window.Window.{Window}
use Rattle.kql_bound.specs.declared.literal.Lit.{Lit}
use Rattle.plan_rules.specs.Reads.{reads_only, reads_step, with_names, with_names_step}

all-map : {X : Type 0} (p : X → Bool) (xs : List X) → list_all (λ b. b) (map p xs) ≡ list_all p xs
all-map p [] = refl
all-map p (x ∷ xs) = ap (λ b. p x && b) (all-map p xs)

pub reads-Column : (p : List ℕ → Bool) (n : List ℕ) → reads_only p (V.Column n) ≡ p n
unfolding reads_only
reads-Column p n = ap (reads_only p) (sym (V.rolls-Column n)) ∙ fold-roll-BExpr Bool (reads_step p) (BExpr-F.Column n)

pub reads-Call : (p : List ℕ → Bool) (f : Func) (args : List BExpr) → reads_only p (V.Call f args) ≡ list_all (reads_only p) args
unfolding reads_only
reads-Call p f args = ap (reads_only p) (sym (V.rolls-Call f args)) ∙ (fold-roll-BExpr Bool (reads_step p) (BExpr-F.Call f args) ∙ all-map (reads_only p) args)

links-all : (p : List ℕ → Bool) (links : List (ChainSign × BExpr)) → list_all (λ (l : ChainSign × Bool). l.1) (map {B = ChainSign × Bool} (λ (l : ChainSign × BExpr). (l.0, reads_only p l.1)) links) ≡ list_all (λ (l : ChainSign × BExpr). reads_only p l.1) links
links-all p [] = refl
links-all p (l ∷ ls) = ap (λ b. reads_only p l.1 && b) (links-all p ls)

pub reads-Chain : (p : List ℕ → Bool) (first : BExpr) (links : List (ChainSign × BExpr)) → reads_only p (V.Chain first links) ≡ reads_only p first && list_all (λ (l : ChainSign × BExpr). reads_only p l.1) links
unfolding reads_only
reads-Chain p first links = ap (reads_only p) (sym (V.rolls-Chain first links)) ∙ (fold-roll-BExpr Bool (reads_step p) (BExpr-F.Chain first links) ∙ ap (λ b. reads_only p first && b) (links-all p links))

pub reads-Path : (p : List ℕ → Bool) (whole : BExpr) (steps : List BExpr) → reads_only p (V.Path whole steps) ≡ reads_only p whole && list_all (reads_only p) steps
unfolding reads_only
reads-Path p whole steps = ap (reads_only p) (sym (V.rolls-Path whole steps)) ∙ (fold-roll-BExpr Bool (reads_step p) (BExpr-F.Path whole steps) ∙ ap (λ b. reads_only p whole && b) (all-map (reads_only p) steps))

pub reads-Window : (p : List ℕ → Bool) (f : Window) (args : List BExpr) → reads_only p (V.Window f args) ≡ false
unfolding reads_only
reads-Window p f args = ap (reads_only p) (sym (V.rolls-Window f args)) ∙ fold-roll-BExpr Bool (reads_step p) (BExpr-F.Window f args)

pub reads-Aggregate : (p : List ℕ → Bool) (f : Aggregate) (args : List BExpr) → reads_only p (V.Aggregate f args) ≡ false
unfolding reads_only
reads-Aggregate p f args = ap (reads_only p) (sym (V.rolls-Aggregate f args)) ∙ fold-roll-BExpr Bool (reads_step p) (BExpr-F.Aggregate f args)

-- Other names.

abbrev pub link_names : (List ℕ → List ℕ) → ChainSign × BExpr → ChainSign × BExpr
link_names f l = (l.0, with_names f l.1)

pub names-Literal : (f : List ℕ → List ℕ) (l : Lit) → with_names f (V.Literal l) ≡ V.Literal l
unfolding with_names
names-Literal f l = ap (with_names f) (sym (V.rolls-Literal l)) ∙ fold-roll-BExpr BExpr (with_names_step f) (BExpr-F.Literal l)

pub names-Column : (f : List ℕ → List ℕ) (n : List ℕ) → with_names f (V.Column n) ≡ V.Column (f n)
unfolding with_names
names-Column f n = ap (with_names f) (sym (V.rolls-Column n)) ∙ fold-roll-BExpr BExpr (with_names_step f) (BExpr-F.Column n)

pub names-Step : (f : List ℕ → List ℕ) (c : StepColumn) → with_names f (V.Step c) ≡ V.Step c
unfolding with_names
names-Step f c = ap (with_names f) (sym (V.rolls-Step c)) ∙ fold-roll-BExpr BExpr (with_names_step f) (BExpr-F.Step c)

pub names-Call : (f : List ℕ → List ℕ) (g : Func) (args : List BExpr) → with_names f (V.Call g args) ≡ V.Call g (map (with_names f) args)
unfolding with_names
names-Call f g args = ap (with_names f) (sym (V.rolls-Call g args)) ∙ fold-roll-BExpr BExpr (with_names_step f) (BExpr-F.Call g args)

pub names-Chain : (f : List ℕ → List ℕ) (first : BExpr) (links : List (ChainSign × BExpr)) → with_names f (V.Chain first links) ≡ V.Chain (with_names f first) (map (link_names f) links)
unfolding with_names
names-Chain f first links = ap (with_names f) (sym (V.rolls-Chain first links)) ∙ fold-roll-BExpr BExpr (with_names_step f) (BExpr-F.Chain first links)

pub names-Path : (f : List ℕ → List ℕ) (whole : BExpr) (steps : List BExpr) → with_names f (V.Path whole steps) ≡ V.Path (with_names f whole) (map (with_names f) steps)
unfolding with_names
names-Path f whole steps = ap (with_names f) (sym (V.rolls-Path whole steps)) ∙ fold-roll-BExpr BExpr (with_names_step f) (BExpr-F.Path whole steps)

pub names-Window : (f : List ℕ → List ℕ) (g : Window) (args : List BExpr) → with_names f (V.Window g args) ≡ V.Window g (map (with_names f) args)
unfolding with_names
names-Window f g args = ap (with_names f) (sym (V.rolls-Window g args)) ∙ fold-roll-BExpr BExpr (with_names_step f) (BExpr-F.Window g args)

pub names-Aggregate : (f : List ℕ → List ℕ) (g : Aggregate) (args : List BExpr) → with_names f (V.Aggregate g args) ≡ V.Aggregate g (map (with_names f) args)
unfolding with_names
names-Aggregate f g args = ap (with_names f) (sym (V.rolls-Aggregate g args)) ∙ fold-roll-BExpr BExpr (with_names_step f) (BExpr-F.Aggregate g args)

pub reads-Literal : (p : List ℕ → Bool) (l : Lit) → reads_only p (V.Literal l) ≡ true
unfolding reads_only
reads-Literal p l = ap (reads_only p) (sym (V.rolls-Literal l)) ∙ fold-roll-BExpr Bool (reads_step p) (BExpr-F.Literal l)

pub reads-Step : (p : List ℕ → Bool) (c : StepColumn) → reads_only p (V.Step c) ≡ true
unfolding reads_only
reads-Step p c = ap (reads_only p) (sym (V.rolls-Step c)) ∙ fold-roll-BExpr Bool (reads_step p) (BExpr-F.Step c)

pub ruleset renaming_steps = (names-Literal, names-Column, names-Step, names-Call, names-Chain, names-Path, names-Window, names-Aggregate)
