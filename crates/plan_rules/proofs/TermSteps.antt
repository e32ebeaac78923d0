-- The equations of the terms of an expression, one for each variant.
use Rattle.std.proofs.Common.{◌≡◌, ◌≢◌, ℕ, true, List, [], ◌∷◌, ◌++◌, map, refl, ap, sym, subst, ◌∙◌}
use Rattle.std.specs.Prelude.{None, Option, flat_map}
use Rattle.std.specs.List.{list_all}
use Rattle.std.proofs.lemmas.Bool.{and_parts}
use Rattle.kql_functions.specs.declared.aggregate.Aggregate.{Aggregate}
use Rattle.kql_functions.specs.declared.func.Func.{Func}
use Rattle.kql_functions.specs.declared.func.Func.TheVariants as func
use Rattle.kql_functions.specs.declared.func.LogicFunc.TheVariants as logic
use Rattle.kql_functions.specs.declared.window.Window.{Window}
use Rattle.kql_bound.specs.declared.expr.BExpr.{BExpr, ind-BExpr, map-BExpr, para-roll-BExpr, roll-BExpr}
use Rattle.kql_bound.specs.declared.expr.BExpr.TheOpen.{BExpr-F}
use Rattle.kql_bound.specs.declared.expr.BExpr.TheVariants as V
use Rattle.kql_bound.specs.declared.expr.ChainSign.{ChainSign}
use Rattle.kql_bound.specs.declared.expr.StepColumn.{StepColumn}
use Rattle.kql_bound.specs.declared.literal.Lit.{Lit}
use Rattle.plan_rules.specs.LawsOfRules.{TermsAreSingle}
use Rattle.plan_rules.specs.Rules.{WithTerms, and_terms, is_single, terms_in, terms_of, terms_of_call, terms_or_alone, terms_step}

abbrev pub with_terms : BExpr → WithTerms
with_terms e = (e, and_terms e)

-- An expression that is no `and`.
alone : (e : BExpr) → and_terms e ≡ None → terms_of e ≡ e ∷ []
unfolding terms_of
alone e none = ap (λ ts. terms_or_alone (e, ts)) none

none-Literal : (l : Lit) → and_terms (V.Literal l) ≡ None
unfolding and_terms
none-Literal l = ap and_terms (sym (V.rolls-Literal l)) ∙ para-roll-BExpr (Option (List BExpr)) terms_step (BExpr-F.Literal l)

pub terms-Literal : (l : Lit) → terms_of (V.Literal l) ≡ V.Literal l ∷ []
terms-Literal l = alone (V.Literal l) (none-Literal l)

none-Column : (n : List ℕ) → and_terms (V.Column n) ≡ None
unfolding and_terms
none-Column n = ap and_terms (sym (V.rolls-Column n)) ∙ para-roll-BExpr (Option (List BExpr)) terms_step (BExpr-F.Column n)

pub terms-Column : (n : List ℕ) → terms_of (V.Column n) ≡ V.Column n ∷ []
terms-Column n = alone (V.Column n) (none-Column n)

none-Step : (c : StepColumn) → and_terms (V.Step c) ≡ None
unfolding and_terms
none-Step c = ap and_terms (sym (V.rolls-Step c)) ∙ para-roll-BExpr (Option (List BExpr)) terms_step (BExpr-F.Step c)

pub terms-Step : (c : StepColumn) → terms_of (V.Step c) ≡ V.Step c ∷ []
terms-Step c = alone (V.Step c) (none-Step c)

none-Chain : (first : BExpr) (links : List (ChainSign × BExpr)) → and_terms (V.Chain first links) ≡ None
unfolding and_terms
none-Chain first links = ap and_terms (sym (V.rolls-Chain first links)) ∙ para-roll-BExpr (Option (List BExpr)) terms_step (BExpr-F.Chain first links)

pub terms-Chain : (first : BExpr) (links : List (ChainSign × BExpr)) → terms_of (V.Chain first links) ≡ V.Chain first links ∷ []
terms-Chain first links = alone (V.Chain first links) (none-Chain first links)

none-Path : (whole : BExpr) (steps : List BExpr) → and_terms (V.Path whole steps) ≡ None
unfolding and_terms
none-Path whole steps = ap and_terms (sym (V.rolls-Path whole steps)) ∙ para-roll-BExpr (Option (List BExpr)) terms_step (BExpr-F.Path whole steps)

pub terms-Path : (whole : BExpr) (steps : List BExpr) → terms_of (V.Path whole steps) ≡ V.Path whole steps ∷ []
terms-Path whole steps = alone (V.Path whole steps) (none-Path whole steps)

none-Window : (f : Window) (args : List BExpr) → and_terms (V.Window f args) ≡ None
unfolding and_terms
none-Window f args = ap and_terms (sym (V.rolls-Window f args)) ∙ para-roll-BExpr (Option (List BExpr)) terms_step (BExpr-F.Window f args)

pub terms-Window : (f : Window) (args : List BExpr) → terms_of (V.Window f args) ≡ V.Window f args ∷ []
terms-Window f args = alone (V.Window f args) (none-Window f args)

none-Aggregate : (f : Aggregate) (args : List BExpr) → and_terms (V.Aggregate f args) ≡ None
unfolding and_terms
none-Aggregate f args = ap and_terms (sym (V.rolls-Aggregate f args)) ∙ para-roll-BExpr (Option (List BExpr)) terms_step (BExpr-F.Aggregate f args)

pub terms-Aggregate : (f : Aggregate) (args : List BExpr) → terms_of (V.Aggregate f args) ≡ V.Aggregate f args ∷ []
terms-Aggregate f args = alone (V.Aggregate f args) (none-Aggregate f args)

-- Calls.

terms-there : (f : Func) (args : List BExpr) → and_terms (V.Call f args) ≡ terms_of_call f (map with_terms args)
unfolding and_terms
terms-there f args = ap and_terms (sym (V.rolls-Call f args)) ∙ para-roll-BExpr (Option (List BExpr)) terms_step (BExpr-F.Call f args)

in-several : (es : List BExpr) → flat_map terms_or_alone (map with_terms es) ≡ terms_in es
unfolding terms_of terms_in
in-several [] = refl
in-several (e ∷ es) = ap (λ ts. terms_of e ++ ts) (in-several es)

pub terms-And : (args : List BExpr) → terms_of (V.Call (func.Logic logic.And) args) ≡ terms_in args
unfolding terms_of
terms-And args = ap (λ ts. terms_or_alone (V.Call (func.Logic logic.And) args, ts)) (terms-there (func.Logic logic.And) args) ∙ in-several args

other-call : (f : Func) (args : List WithTerms) → f ≢ func.Logic logic.And → terms_of_call f args ≡ None
other-call (func.Logic logic.And) args other = absurd (other refl)
other-call _ args other = refl

pub terms-Call : (f : Func) (args : List BExpr) → f ≢ func.Logic logic.And → terms_of (V.Call f args) ≡ V.Call f args ∷ []
terms-Call f args other = alone (V.Call f args) (terms-there f args ∙ other-call f (map with_terms args) other)

-- A fact of the terms of a call, which holds for an `and` and for whatever is none.
pub call-terms : (P : BExpr → List BExpr → Type 0) → ((e : BExpr) → and_terms e ≡ None → P e (e ∷ [])) → (f : Func) (args : List BExpr) → P (V.Call (func.Logic logic.And) args) (terms_in args) → P (V.Call f args) (terms_of (V.Call f args))
unfolding terms_of
call-terms P one f args both = subst (λ ts. P (V.Call f args) (terms_or_alone (V.Call f args, ts))) (sym (terms-there f args)) (of-call f)
  where
    of-call : (f : Func) → P (V.Call f args) (terms_or_alone (V.Call f args, terms_of_call f (map with_terms args)))
    of-call (func.Logic logic.And) = subst (P (V.Call (func.Logic logic.And) args)) (sym (in-several args)) both
    of-call _ = one _ (terms-there _ args)

-- No term is an `and`.

abbrev AreSingle : BExpr → List BExpr → Type 0
AreSingle e ts = list_all is_single ts ≡ true

abbrev Singly : BExpr → Type 0
Singly e = AreSingle e (terms_of e)

one-single : (e : BExpr) → and_terms e ≡ None → AreSingle e (e ∷ [])
unfolding is_single
one-single e none = rw none refl

stands-alone : (e : BExpr) → and_terms e ≡ None → Singly e
stands-alone e none = subst (AreSingle e) (sym (alone e none)) (one-single e none)

abbrev Given : Type 0
Given = (e : BExpr) × Singly e

abbrev bare : Given → BExpr
bare g = g.0

abbrev bare_link : ChainSign × Given → ChainSign × BExpr
bare_link l = (l.0, l.1.0)

all-append : (xs ys : List BExpr) → list_all is_single xs ≡ true → list_all is_single ys ≡ true → list_all is_single (xs ++ ys) ≡ true
all-append [] ys h g = g
all-append (x ∷ xs) ys h g = let b = and_parts (is_single x) (list_all is_single xs) h in rw (b.0, all-append xs ys b.1 g) refl

several-single : (gs : List Given) → list_all is_single (terms_in (map bare gs)) ≡ true
unfolding terms_in
several-single [] = refl
several-single (g ∷ gs) = all-append (terms_of g.0) (terms_in (map bare gs)) g.1 (several-single gs)

of-layer : (y : BExpr-F Given) → Singly (roll-BExpr (map-BExpr Given BExpr bare y))
of-layer (BExpr-F.Literal l) = subst Singly (sym (V.rolls-Literal l)) (stands-alone (V.Literal l) (none-Literal l))
of-layer (BExpr-F.Column n) = subst Singly (sym (V.rolls-Column n)) (stands-alone (V.Column n) (none-Column n))
of-layer (BExpr-F.Step c) = subst Singly (sym (V.rolls-Step c)) (stands-alone (V.Step c) (none-Step c))
of-layer (BExpr-F.Call f gs) = subst Singly (sym (V.rolls-Call f (map bare gs))) (call-terms AreSingle one-single f (map bare gs) (several-single gs))
of-layer (BExpr-F.Chain first gs) = subst Singly (sym (V.rolls-Chain first.0 (map bare_link gs))) (stands-alone (V.Chain first.0 (map bare_link gs)) (none-Chain first.0 (map bare_link gs)))
of-layer (BExpr-F.Path whole gs) = subst Singly (sym (V.rolls-Path whole.0 (map bare gs))) (stands-alone (V.Path whole.0 (map bare gs)) (none-Path whole.0 (map bare gs)))
of-layer (BExpr-F.Window f gs) = subst Singly (sym (V.rolls-Window f (map bare gs))) (stands-alone (V.Window f (map bare gs)) (none-Window f (map bare gs)))
of-layer (BExpr-F.Aggregate f gs) = subst Singly (sym (V.rolls-Aggregate f (map bare gs))) (stands-alone (V.Aggregate f (map bare gs)) (none-Aggregate f (map bare gs)))

pub terms-single : TermsAreSingle
terms-single = ind-BExpr Singly (λ x y is. subst (λ (z : BExpr-F BExpr). Singly (roll-BExpr z)) is (of-layer y))

pub ruleset terms_steps = (terms-Literal, terms-Column, terms-Step, terms-Chain, terms-Path, terms-Window, terms-Aggregate, terms-And, terms-Call)
