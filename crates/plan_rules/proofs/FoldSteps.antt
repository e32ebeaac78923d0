-- The equations of constants, of what is folded and of what an expression becomes, one for each variant.
use Rattle.std.proofs.Common.{◌≡◌, ℕ, Bool, true, false, List, [], ◌∷◌, map, refl, ap, ap₂, sym, ◌∙◌, subst}
use Rattle.std.specs.Prelude.{◌&&◌, not, None, Some}
use Rattle.std.specs.List.{list_all}
use Rattle.std.proofs.lemmas.Bool.{and_parts}
use Rattle.kql_functions.specs.declared.func.Func.{Func}
use Rattle.kql_functions.specs.declared.aggregate.Aggregate.{Aggregate}
use Rattle.kql_functions.specs.declared.window.Window.{Window}
use Rattle.kql_bound.specs.declared.expr.BExpr.{BExpr, fold-roll-BExpr, out-BExpr, para-roll-BExpr, roll-BExpr, roll-out-BExpr}
use Rattle.kql_bound.specs.declared.expr.BExpr.TheOpen.{BExpr-F}
use Rattle.kql_bound.specs.declared.expr.BExpr.TheVariants as V
use Rattle.kql_bound.specs.declared.expr.ChainSign.{ChainSign}
use Rattle.kql_bound.specs.declared.expr.StepColumn.{StepColumn}
use Rattle.kql_bound.specs.declared.literal.Lit.{Lit}
use Rattle.kql_meaning.specs.FittingExpressions.{column_of, column_step, literal_of, literal_step}
use Rattle.kql_meaning.proofs.ExpressionFitLaws.{literal-Literal}
use Rattle.plan_rules.specs.Constants.{constant_step, is_constant}
use Rattle.plan_rules.specs.Folding.{Tested, folded, folded_call, folded_chain, folded_expr_step, folded_path, folded_test, goes_along, goes_on, is_folded}

-- An expression is rolled up of one of the forms.
pub each-form : (P : BExpr → Type 0) → ((y : BExpr-F BExpr) → P (roll-BExpr y)) → (e : BExpr) → P e
each-form P h e = subst P (roll-out-BExpr e) (h (out-BExpr e))

-- Constants.

all-map : {X : Type 0} (p : X → Bool) (xs : List X) → list_all (λ b. b) (map p xs) ≡ list_all p xs
all-map p [] = refl
all-map p (x ∷ xs) = ap (λ b. p x && b) (all-map p xs)

links-map : (p : BExpr → Bool) (ls : List (ChainSign × BExpr)) → list_all (λ (l : ChainSign × Bool). l.1) (map {B = ChainSign × Bool} (λ (l : ChainSign × BExpr). (l.0, p l.1)) ls) ≡ list_all (λ (l : ChainSign × BExpr). p l.1) ls
links-map p [] = refl
links-map p (l ∷ ls) = ap (λ b. p l.1 && b) (links-map p ls)

pub constant-Literal : (l : Lit) → is_constant (V.Literal l) ≡ true
unfolding is_constant
constant-Literal l = ap is_constant (sym (V.rolls-Literal l)) ∙ fold-roll-BExpr Bool constant_step (BExpr-F.Literal l)

pub constant-Column : (n : List ℕ) → is_constant (V.Column n) ≡ false
unfolding is_constant
constant-Column n = ap is_constant (sym (V.rolls-Column n)) ∙ fold-roll-BExpr Bool constant_step (BExpr-F.Column n)

pub constant-Step : (c : StepColumn) → is_constant (V.Step c) ≡ false
unfolding is_constant
constant-Step c = ap is_constant (sym (V.rolls-Step c)) ∙ fold-roll-BExpr Bool constant_step (BExpr-F.Step c)

pub constant-Call : (f : Func) (args : List BExpr) → is_constant (V.Call f args) ≡ list_all is_constant args
unfolding is_constant
constant-Call f args = ap is_constant (sym (V.rolls-Call f args)) ∙ (fold-roll-BExpr Bool constant_step (BExpr-F.Call f args) ∙ all-map is_constant args)

pub constant-Chain : (first : BExpr) (links : List (ChainSign × BExpr)) → is_constant (V.Chain first links) ≡ (is_constant first && list_all (λ (l : ChainSign × BExpr). is_constant l.1) links)
unfolding is_constant
constant-Chain first links = ap is_constant (sym (V.rolls-Chain first links)) ∙ (fold-roll-BExpr Bool constant_step (BExpr-F.Chain first links) ∙ ap (λ b. is_constant first && b) (links-map is_constant links))

pub constant-Path : (whole : BExpr) (steps : List BExpr) → is_constant (V.Path whole steps) ≡ (is_constant whole && list_all is_constant steps)
unfolding is_constant
constant-Path whole steps = ap is_constant (sym (V.rolls-Path whole steps)) ∙ (fold-roll-BExpr Bool constant_step (BExpr-F.Path whole steps) ∙ ap (λ b. is_constant whole && b) (all-map is_constant steps))

pub constant-Window : (f : Window) (args : List BExpr) → is_constant (V.Window f args) ≡ false
unfolding is_constant
constant-Window f args = ap is_constant (sym (V.rolls-Window f args)) ∙ fold-roll-BExpr Bool constant_step (BExpr-F.Window f args)

pub constant-Aggregate : (f : Aggregate) (args : List BExpr) → is_constant (V.Aggregate f args) ≡ false
unfolding is_constant
constant-Aggregate f args = ap is_constant (sym (V.rolls-Aggregate f args)) ∙ fold-roll-BExpr Bool constant_step (BExpr-F.Aggregate f args)

-- What is folded.

abbrev tested : BExpr → Tested
tested e = (e, is_folded e)

abbrev tested_link : ChainSign × BExpr → ChainSign × Tested
tested_link l = (l.0, tested l.1)

constants-of : (es : List BExpr) → list_all (λ (a : Tested). is_constant a.0) (map tested es) ≡ list_all is_constant es
constants-of [] = refl
constants-of (e ∷ es) = ap (λ b. is_constant e && b) (constants-of es)

folds-of : (es : List BExpr) → list_all (λ (a : Tested). a.1) (map tested es) ≡ list_all is_folded es
folds-of [] = refl
folds-of (e ∷ es) = ap (λ b. is_folded e && b) (folds-of es)

link-folds-of : (ls : List (ChainSign × BExpr)) → list_all (λ (l : ChainSign × Tested). l.1.1) (map tested_link ls) ≡ list_all (λ (l : ChainSign × BExpr). is_folded l.1) ls
link-folds-of [] = refl
link-folds-of (l ∷ ls) = ap (λ b. is_folded l.1 && b) (link-folds-of ls)

-- Whether the second part of a chain, and of a path, is a constant, where there is one.
abbrev pub along : List (ChainSign × BExpr) → Bool
along [] = true
along (l ∷ ls) = is_constant l.1

abbrev pub on : List BExpr → Bool
on [] = true
on (e ∷ es) = is_constant e

along-of : (ls : List (ChainSign × BExpr)) → goes_along (map tested_link ls) ≡ along ls
along-of [] = refl
along-of (l ∷ ls) = refl

on-of : (es : List BExpr) → goes_on (map tested es) ≡ on es
on-of [] = refl
on-of (e ∷ es) = refl

pub is_folded-Literal : (l : Lit) → is_folded (V.Literal l) ≡ true
unfolding is_folded
is_folded-Literal l = ap is_folded (sym (V.rolls-Literal l)) ∙ para-roll-BExpr Bool folded_test (BExpr-F.Literal l)

pub is_folded-Column : (n : List ℕ) → is_folded (V.Column n) ≡ true
unfolding is_folded
is_folded-Column n = ap is_folded (sym (V.rolls-Column n)) ∙ para-roll-BExpr Bool folded_test (BExpr-F.Column n)

pub is_folded-Step : (c : StepColumn) → is_folded (V.Step c) ≡ true
unfolding is_folded
is_folded-Step c = ap is_folded (sym (V.rolls-Step c)) ∙ para-roll-BExpr Bool folded_test (BExpr-F.Step c)

pub is_folded-Call : (f : Func) (args : List BExpr) → is_folded (V.Call f args) ≡ (not (list_all is_constant args) && list_all is_folded args)
unfolding is_folded
is_folded-Call f args = ap is_folded (sym (V.rolls-Call f args)) ∙ (para-roll-BExpr Bool folded_test (BExpr-F.Call f args) ∙ ap₂ (λ a b. not a && b) (constants-of args) (folds-of args))

pub is_folded-Chain : (first : BExpr) (links : List (ChainSign × BExpr)) → is_folded (V.Chain first links) ≡ (not (is_constant first && along links) && (is_folded first && list_all (λ (l : ChainSign × BExpr). is_folded l.1) links))
unfolding is_folded
is_folded-Chain first links =
    ap is_folded (sym (V.rolls-Chain first links)) ∙ (para-roll-BExpr Bool folded_test (BExpr-F.Chain first links) ∙ ap₂ (λ a b. not (is_constant first && a) && (is_folded first && b)) (along-of links) (link-folds-of links))

pub is_folded-Path : (whole : BExpr) (steps : List BExpr) → is_folded (V.Path whole steps) ≡ (not (is_constant whole && on steps) && (is_folded whole && list_all is_folded steps))
unfolding is_folded
is_folded-Path whole steps =
    ap is_folded (sym (V.rolls-Path whole steps)) ∙ (para-roll-BExpr Bool folded_test (BExpr-F.Path whole steps) ∙ ap₂ (λ a b. not (is_constant whole && a) && (is_folded whole && b)) (on-of steps) (folds-of steps))

pub is_folded-Window : (f : Window) (args : List BExpr) → is_folded (V.Window f args) ≡ list_all is_folded args
unfolding is_folded
is_folded-Window f args = ap is_folded (sym (V.rolls-Window f args)) ∙ (para-roll-BExpr Bool folded_test (BExpr-F.Window f args) ∙ folds-of args)

pub is_folded-Aggregate : (f : Aggregate) (args : List BExpr) → is_folded (V.Aggregate f args) ≡ list_all is_folded args
unfolding is_folded
is_folded-Aggregate f args = ap is_folded (sym (V.rolls-Aggregate f args)) ∙ (para-roll-BExpr Bool folded_test (BExpr-F.Aggregate f args) ∙ folds-of args)

-- A folded expression that is no literal is no constant.

not-true : (b : Bool) → not b ≡ true → b ≡ false
not-true true e = cc
not-true false e = refl

chain-varies : (a : Bool) (ls : List (ChainSign × BExpr)) → (a && along ls) ≡ false → (a && list_all (λ (l : ChainSign × BExpr). is_constant l.1) ls) ≡ false
chain-varies false ls e = refl
chain-varies true [] e = cc
chain-varies true (l ∷ ls) e = let second : is_constant l.1 ≡ false = e in rw second refl

path-varies : (a : Bool) (es : List BExpr) → (a && on es) ≡ false → (a && list_all is_constant es) ≡ false
path-varies false es e = refl
path-varies true [] e = cc
path-varies true (x ∷ xs) e = let second : is_constant x ≡ false = e in rw second refl

abbrev Varies : BExpr → Type 0
Varies e = is_folded e ≡ true → literal_of e ≡ None → is_constant e ≡ false

varies-layer : (y : BExpr-F BExpr) → Varies (roll-BExpr y)
varies-layer (BExpr-F.Literal l) = subst Varies (sym (V.rolls-Literal l)) (λ h n. let no : Some l ≡ None = sym (literal-Literal l) ∙ n in absurd cc)
varies-layer (BExpr-F.Column n) = subst Varies (sym (V.rolls-Column n)) (λ h m. constant-Column n)
varies-layer (BExpr-F.Step c) = subst Varies (sym (V.rolls-Step c)) (λ h m. constant-Step c)
varies-layer (BExpr-F.Call f args) = subst Varies (sym (V.rolls-Call f args)) (λ h m.
    let parts = and_parts (not (list_all is_constant args)) (list_all is_folded args) (sym (is_folded-Call f args) ∙ h) in
    constant-Call f args ∙ not-true (list_all is_constant args) parts.0)
varies-layer (BExpr-F.Chain first links) = subst Varies (sym (V.rolls-Chain first links)) (λ h m.
    let parts = and_parts (not (is_constant first && along links)) (is_folded first && list_all (λ (l : ChainSign × BExpr). is_folded l.1) links) (sym (is_folded-Chain first links) ∙ h) in
    constant-Chain first links ∙ chain-varies (is_constant first) links (not-true (is_constant first && along links) parts.0))
varies-layer (BExpr-F.Path whole steps) = subst Varies (sym (V.rolls-Path whole steps)) (λ h m.
    let parts = and_parts (not (is_constant whole && on steps)) (is_folded whole && list_all is_folded steps) (sym (is_folded-Path whole steps) ∙ h) in
    constant-Path whole steps ∙ path-varies (is_constant whole) steps (not-true (is_constant whole && on steps) parts.0))
varies-layer (BExpr-F.Window f args) = subst Varies (sym (V.rolls-Window f args)) (λ h m. constant-Window f args)
varies-layer (BExpr-F.Aggregate f args) = subst Varies (sym (V.rolls-Aggregate f args)) (λ h m. constant-Aggregate f args)

pub folded-varies : (e : BExpr) → is_folded e ≡ true → literal_of e ≡ None → is_constant e ≡ false
folded-varies = each-form Varies varies-layer

-- What an expression becomes.

abbrev pub folded_link : ChainSign × BExpr → ChainSign × BExpr
folded_link l = (l.0, folded l.1)

pub folded-Literal : (l : Lit) → folded (V.Literal l) ≡ V.Literal l
unfolding folded
folded-Literal l = ap folded (sym (V.rolls-Literal l)) ∙ fold-roll-BExpr BExpr folded_expr_step (BExpr-F.Literal l)

pub folded-Column : (n : List ℕ) → folded (V.Column n) ≡ V.Column n
unfolding folded
folded-Column n = ap folded (sym (V.rolls-Column n)) ∙ fold-roll-BExpr BExpr folded_expr_step (BExpr-F.Column n)

pub folded-Step : (c : StepColumn) → folded (V.Step c) ≡ V.Step c
unfolding folded
folded-Step c = ap folded (sym (V.rolls-Step c)) ∙ fold-roll-BExpr BExpr folded_expr_step (BExpr-F.Step c)

pub folded-Call : (f : Func) (args : List BExpr) → folded (V.Call f args) ≡ folded_call f (map folded args)
unfolding folded
folded-Call f args = ap folded (sym (V.rolls-Call f args)) ∙ fold-roll-BExpr BExpr folded_expr_step (BExpr-F.Call f args)

pub folded-Chain : (first : BExpr) (links : List (ChainSign × BExpr)) → folded (V.Chain first links) ≡ folded_chain (folded first) (map folded_link links)
unfolding folded
folded-Chain first links = ap folded (sym (V.rolls-Chain first links)) ∙ fold-roll-BExpr BExpr folded_expr_step (BExpr-F.Chain first links)

pub folded-Path : (whole : BExpr) (steps : List BExpr) → folded (V.Path whole steps) ≡ folded_path (folded whole) (map folded steps)
unfolding folded
folded-Path whole steps = ap folded (sym (V.rolls-Path whole steps)) ∙ fold-roll-BExpr BExpr folded_expr_step (BExpr-F.Path whole steps)

pub folded-Window : (f : Window) (args : List BExpr) → folded (V.Window f args) ≡ V.Window f (map folded args)
unfolding folded
folded-Window f args = ap folded (sym (V.rolls-Window f args)) ∙ fold-roll-BExpr BExpr folded_expr_step (BExpr-F.Window f args)

pub folded-Aggregate : (f : Aggregate) (args : List BExpr) → folded (V.Aggregate f args) ≡ V.Aggregate f (map folded args)
unfolding folded
folded-Aggregate f args = ap folded (sym (V.rolls-Aggregate f args)) ∙ fold-roll-BExpr BExpr folded_expr_step (BExpr-F.Aggregate f args)

pub ruleset folding_steps = (folded-Literal, folded-Column, folded-Step, folded-Call, folded-Chain, folded-Path, folded-Window, folded-Aggregate)

-- Literals and columns stay as they are.

literal-roll : (f : BExpr-F BExpr) (l : Lit) → literal_step f ≡ Some l → roll-BExpr f ≡ V.Literal l
literal-roll (BExpr-F.Literal m) l e = let same : m ≡ l = cc in V.rolls-Literal m ∙ ap V.Literal same
literal-roll _ l e = absurd cc

pub literal-is : (e : BExpr) (l : Lit) → literal_of e ≡ Some l → e ≡ V.Literal l
unfolding literal_of
literal-is e l h = sym (roll-out-BExpr e) ∙ literal-roll (out-BExpr e) l h

column-roll : (f : BExpr-F BExpr) (n : List ℕ) → column_step f ≡ Some n → roll-BExpr f ≡ V.Column n
column-roll (BExpr-F.Column m) n e = let same : m ≡ n = cc in V.rolls-Column m ∙ ap V.Column same
column-roll _ n e = absurd cc

pub column-is : (e : BExpr) (n : List ℕ) → column_of e ≡ Some n → e ≡ V.Column n
unfolding column_of
column-is e n h = sym (roll-out-BExpr e) ∙ column-roll (out-BExpr e) n h

pub literal-folded : (e : BExpr) (l : Lit) → literal_of e ≡ Some l → folded e ≡ e
literal-folded e l h = let is = literal-is e l h in ap folded is ∙ (folded-Literal l ∙ sym is)

pub column-folded : (e : BExpr) (n : List ℕ) → column_of e ≡ Some n → folded e ≡ e
column-folded e n h = let is = column-is e n h in ap folded is ∙ (folded-Column n ∙ sym is)
