-- The equations of the column and the text that an expression is, and of a call of two arguments.
use Rattle.std.proofs.Common.{◌≡◌, ℕ, List, [], ◌∷◌, length, get_or, Option, Some, None, refl, sym, ap, ap₂, ◌∙◌, arith}
use Rattle.kql_functions.specs.declared.aggregate.Aggregate.{Aggregate}
use Rattle.kql_functions.specs.declared.func.Func.{Func}
use Rattle.kql_functions.specs.declared.func.PatternFunc.{PatternFunc}
use Rattle.kql_functions.specs.declared.window.Window.{Window}
use Rattle.kql_bound.specs.declared.expr.BExpr.{BExpr, out-BExpr, out-roll-BExpr}
use Rattle.kql_bound.specs.declared.expr.BExpr.TheOpen.{BExpr-F}
use Rattle.kql_bound.specs.declared.expr.BExpr.TheVariants as V
use Rattle.kql_bound.specs.declared.expr.ChainSign.{ChainSign}
use Rattle.kql_bound.specs.declared.expr.StepColumn.{StepColumn}
use Rattle.kql_bound.specs.declared.literal.Lit.{Lit}
use Rattle.pattern_lift.specs.declared.calls.PatternCall.{PatternCall}
use Rattle.pattern_lift.specs.Calls.{call_of, call_with, column_name, column_step, literal_text, or_none, text_of_kind, text_step}

-- What an expression is, by its variant
pub column-Literal : (l : Lit) → column_name (V.Literal l) ≡ None
unfolding column_name
column-Literal l = ap (λ (e : BExpr). column_step (out-BExpr e)) (sym (V.rolls-Literal l)) ∙ ap column_step (out-roll-BExpr (BExpr-F.Literal l))

pub text-Literal : (l : Lit) → literal_text (V.Literal l) ≡ text_of_kind l.kind l.value
unfolding literal_text
text-Literal l = ap (λ (e : BExpr). text_step (out-BExpr e)) (sym (V.rolls-Literal l)) ∙ ap text_step (out-roll-BExpr (BExpr-F.Literal l))

pub column-Column : (n : List ℕ) → column_name (V.Column n) ≡ Some n
unfolding column_name
column-Column n = ap (λ (e : BExpr). column_step (out-BExpr e)) (sym (V.rolls-Column n)) ∙ ap column_step (out-roll-BExpr (BExpr-F.Column n))

pub text-Column : (n : List ℕ) → literal_text (V.Column n) ≡ None
unfolding literal_text
text-Column n = ap (λ (e : BExpr). text_step (out-BExpr e)) (sym (V.rolls-Column n)) ∙ ap text_step (out-roll-BExpr (BExpr-F.Column n))

pub column-Step : (c : StepColumn) → column_name (V.Step c) ≡ None
unfolding column_name
column-Step c = ap (λ (e : BExpr). column_step (out-BExpr e)) (sym (V.rolls-Step c)) ∙ ap column_step (out-roll-BExpr (BExpr-F.Step c))

pub text-Step : (c : StepColumn) → literal_text (V.Step c) ≡ None
unfolding literal_text
text-Step c = ap (λ (e : BExpr). text_step (out-BExpr e)) (sym (V.rolls-Step c)) ∙ ap text_step (out-roll-BExpr (BExpr-F.Step c))

pub column-Call : (f : Func) (args : List BExpr) → column_name (V.Call f args) ≡ None
unfolding column_name
column-Call f args = ap (λ (e : BExpr). column_step (out-BExpr e)) (sym (V.rolls-Call f args)) ∙ ap column_step (out-roll-BExpr (BExpr-F.Call f args))

pub text-Call : (f : Func) (args : List BExpr) → literal_text (V.Call f args) ≡ None
unfolding literal_text
text-Call f args = ap (λ (e : BExpr). text_step (out-BExpr e)) (sym (V.rolls-Call f args)) ∙ ap text_step (out-roll-BExpr (BExpr-F.Call f args))

pub column-Chain : (first : BExpr) (links : List (ChainSign × BExpr)) → column_name (V.Chain first links) ≡ None
unfolding column_name
column-Chain first links = ap (λ (e : BExpr). column_step (out-BExpr e)) (sym (V.rolls-Chain first links)) ∙ ap column_step (out-roll-BExpr (BExpr-F.Chain first links))

pub text-Chain : (first : BExpr) (links : List (ChainSign × BExpr)) → literal_text (V.Chain first links) ≡ None
unfolding literal_text
text-Chain first links = ap (λ (e : BExpr). text_step (out-BExpr e)) (sym (V.rolls-Chain first links)) ∙ ap text_step (out-roll-BExpr (BExpr-F.Chain first links))

pub column-Path : (whole : BExpr) (steps : List BExpr) → column_name (V.Path whole steps) ≡ None
unfolding column_name
column-Path whole steps = ap (λ (e : BExpr). column_step (out-BExpr e)) (sym (V.rolls-Path whole steps)) ∙ ap column_step (out-roll-BExpr (BExpr-F.Path whole steps))

pub text-Path : (whole : BExpr) (steps : List BExpr) → literal_text (V.Path whole steps) ≡ None
unfolding literal_text
text-Path whole steps = ap (λ (e : BExpr). text_step (out-BExpr e)) (sym (V.rolls-Path whole steps)) ∙ ap text_step (out-roll-BExpr (BExpr-F.Path whole steps))

pub column-Window : (f : Window) (args : List BExpr) → column_name (V.Window f args) ≡ None
unfolding column_name
column-Window f args = ap (λ (e : BExpr). column_step (out-BExpr e)) (sym (V.rolls-Window f args)) ∙ ap column_step (out-roll-BExpr (BExpr-F.Window f args))

pub text-Window : (f : Window) (args : List BExpr) → literal_text (V.Window f args) ≡ None
unfolding literal_text
text-Window f args = ap (λ (e : BExpr). text_step (out-BExpr e)) (sym (V.rolls-Window f args)) ∙ ap text_step (out-roll-BExpr (BExpr-F.Window f args))

pub column-Aggregate : (f : Aggregate) (args : List BExpr) → column_name (V.Aggregate f args) ≡ None
unfolding column_name
column-Aggregate f args = ap (λ (e : BExpr). column_step (out-BExpr e)) (sym (V.rolls-Aggregate f args)) ∙ ap column_step (out-roll-BExpr (BExpr-F.Aggregate f args))

pub text-Aggregate : (f : Aggregate) (args : List BExpr) → literal_text (V.Aggregate f args) ≡ None
unfolding literal_text
text-Aggregate f args = ap (λ (e : BExpr). text_step (out-BExpr e)) (sym (V.rolls-Aggregate f args)) ∙ ap text_step (out-roll-BExpr (BExpr-F.Aggregate f args))

pub ruleset shape_steps = (column-Literal, text-Literal, column-Column, text-Column, column-Step, text-Step, column-Call, text-Call, column-Chain, text-Chain, column-Path, text-Path, column-Window, text-Window, column-Aggregate, text-Aggregate)

-- A call of two arguments, and of another number.
pub own-two : (f : PatternFunc) (args : List BExpr) (d e : BExpr) → length args ≡ 2 → call_of f args ≡ call_with f (column_name (get_or args 0 d)) (literal_text (get_or args 1 e))
unfolding call_of
own-two f [] d e two = absurd (omega (arith, two))
own-two f (a ∷ []) d e two = absurd (omega (arith, two))
own-two f (a ∷ b ∷ []) d e two = refl
own-two f (a ∷ b ∷ c ∷ rest) d e two = absurd (omega (arith, two))

pub own-other : (f : PatternFunc) (args : List BExpr) → (length args ≡ 2 → ⊥) → or_none (call_of f args) ≡ []
unfolding call_of
own-other f [] two = refl
own-other f (a ∷ []) two = refl
own-other f (a ∷ b ∷ []) two = absurd (two refl)
own-other f (a ∷ b ∷ c ∷ rest) two = refl

pub own-none : (f : PatternFunc) (args : List BExpr) (a : BExpr) → length args ≡ 2 → a ≡ get_or args 0 a → None ≡ column_name a → or_none (call_of f args) ≡ []
own-none f args a two at none = ap or_none (own-two f args a a two ∙ ap (λ (c : Option (List ℕ)). call_with f c (literal_text (get_or args 1 a))) (ap column_name (sym at) ∙ sym none))

pub own-by : (f : PatternFunc) (args : List BExpr) (a b : BExpr) (c p : Option (List ℕ)) → length args ≡ 2 → a ≡ get_or args 0 a → b ≡ get_or args 1 b → c ≡ column_name a → p ≡ literal_text b → or_none (call_with f c p) ≡ or_none (call_of f args)
own-by f args a b c p two at_a at_b column pattern =
    ap or_none (ap₂ (call_with f) (column ∙ ap column_name at_a) (pattern ∙ ap literal_text at_b) ∙ sym (own-two f args a b two))
