-- The calls of aggregates in an expression, one equation for each variant, and that those in what fits over groups fit.
use Rattle.std.proofs.Common.{◌≡◌, ◌<◌, ◌+◌, ℕ, Bool, true, List, [], ◌∷◌, ◌++◌, map, length, get_or, take, drop, refl, ap, sym, ◌∙◌, subst}
use Rattle.std.specs.Prelude.{◌&&◌, is_some}
use Rattle.std.specs.List.{AllByRecursion, flat_map, list_all}
use Rattle.std.proofs.lemmas.Bool.{and_parts}
use Rattle.std.proofs.lemmas.Grind.{flat_map-append}
use Rattle.std.proofs.lemmas.List.{append-nil, drop-drop, length-append, take_more}
use Rattle.kql_cells.specs.declared.schema.Column.{Column}
use Rattle.kql_functions.specs.declared.aggregate.Aggregate.{Aggregate}
use Rattle.kql_functions.specs.declared.func.Func.{Func}
use Rattle.kql_functions.specs.declared.window.Window.{Window}
use Rattle.kql_bound.specs.declared.expr.BExpr.{BExpr, ind-BExpr, map-BExpr, para-roll-BExpr, roll-BExpr}
use Rattle.kql_bound.specs.declared.expr.BExpr.TheOpen.{BExpr-F}
use Rattle.kql_bound.specs.declared.expr.BExpr.TheVariants as V
use Rattle.kql_bound.specs.declared.expr.ChainSign.{ChainSign}
use Rattle.kql_bound.specs.declared.expr.StepColumn.{StepColumn}
use Rattle.kql_bound.specs.declared.literal.Lit.{Lit}
use Rattle.kql_meaning.specs.declared.position.Position.TheVariants as position
use Rattle.kql_meaning.specs.Expressions.{call_kind, kind_along, kind_down, kind_of, kinds_in}
use Rattle.kql_meaning.specs.FittingExpressions.{aggregate_fits, checked_args, expr_fits, is_callable, links_fit, part_fits, scope_of}
use Rattle.kql_meaning.specs.Results.{has_one_result}
use Rattle.kql_meaning.proofs.ExpressionFitLaws.{fits-Aggregate, fits-Call, fits-Chain, fits-Path}
use Rattle.summarize_op.specs.Calls.{IsCall}
use Rattle.summarize_pieces.specs.Calls.{WithCalls, calls_along, calls_in, calls_in_all, calls_step}

abbrev Calls : Type 0
Calls = List (Aggregate × List BExpr)

abbrev with_calls : BExpr → WithCalls
with_calls e = (e, calls_in e)

abbrev link_with_calls : ChainSign × BExpr → ChainSign × WithCalls
link_with_calls l = (l.0, with_calls l.1)

in-several : (es : List BExpr) → flat_map (λ (a : WithCalls). a.1) (map with_calls es) ≡ calls_in_all es
unfolding calls_in_all
in-several [] = refl
in-several (e ∷ es) = ap (λ (cs : Calls). calls_in e ++ cs) (in-several es)

in-links : (links : List (ChainSign × BExpr)) → flat_map (λ (l : ChainSign × WithCalls). l.1.1) (map link_with_calls links) ≡ calls_along links
unfolding calls_along
in-links [] = refl
in-links (l ∷ ls) = ap (λ (cs : Calls). calls_in l.1 ++ cs) (in-links ls)

exprs-again : (es : List BExpr) → map (λ (a : WithCalls). a.0) (map with_calls es) ≡ es
exprs-again [] = refl
exprs-again (e ∷ es) = ap (λ (xs : List BExpr). e ∷ xs) (exprs-again es)

pub calls-Literal : (l : Lit) → calls_in (V.Literal l) ≡ []
unfolding calls_in
calls-Literal l = ap calls_in (sym (V.rolls-Literal l)) ∙ para-roll-BExpr Calls calls_step (BExpr-F.Literal l)

pub calls-Column : (n : List ℕ) → calls_in (V.Column n) ≡ []
unfolding calls_in
calls-Column n = ap calls_in (sym (V.rolls-Column n)) ∙ para-roll-BExpr Calls calls_step (BExpr-F.Column n)

pub calls-Step : (c : StepColumn) → calls_in (V.Step c) ≡ []
unfolding calls_in
calls-Step c = ap calls_in (sym (V.rolls-Step c)) ∙ para-roll-BExpr Calls calls_step (BExpr-F.Step c)

step-Call : (f : Func) (args : List BExpr) → calls_in (V.Call f args) ≡ flat_map (λ (a : WithCalls). a.1) (map with_calls args)
unfolding calls_in
step-Call f args = ap calls_in (sym (V.rolls-Call f args)) ∙ para-roll-BExpr Calls calls_step (BExpr-F.Call f args)

pub calls-Call : (f : Func) (args : List BExpr) → calls_in (V.Call f args) ≡ calls_in_all args
calls-Call f args = step-Call f args ∙ in-several args

step-Chain : (first : BExpr) (links : List (ChainSign × BExpr)) → calls_in (V.Chain first links) ≡ calls_in first ++ flat_map (λ (l : ChainSign × WithCalls). l.1.1) (map link_with_calls links)
unfolding calls_in
step-Chain first links = ap calls_in (sym (V.rolls-Chain first links)) ∙ para-roll-BExpr Calls calls_step (BExpr-F.Chain first links)

pub calls-Chain : (first : BExpr) (links : List (ChainSign × BExpr)) → calls_in (V.Chain first links) ≡ calls_in first ++ calls_along links
calls-Chain first links = step-Chain first links ∙ ap (λ (cs : Calls). calls_in first ++ cs) (in-links links)

step-Path : (whole : BExpr) (steps : List BExpr) → calls_in (V.Path whole steps) ≡ calls_in whole ++ flat_map (λ (a : WithCalls). a.1) (map with_calls steps)
unfolding calls_in
step-Path whole steps = ap calls_in (sym (V.rolls-Path whole steps)) ∙ para-roll-BExpr Calls calls_step (BExpr-F.Path whole steps)

pub calls-Path : (whole : BExpr) (steps : List BExpr) → calls_in (V.Path whole steps) ≡ calls_in whole ++ calls_in_all steps
calls-Path whole steps = step-Path whole steps ∙ ap (λ (cs : Calls). calls_in whole ++ cs) (in-several steps)

pub calls-Window : (f : Window) (args : List BExpr) → calls_in (V.Window f args) ≡ []
unfolding calls_in
calls-Window f args = ap calls_in (sym (V.rolls-Window f args)) ∙ para-roll-BExpr Calls calls_step (BExpr-F.Window f args)

step-Aggregate : (f : Aggregate) (args : List BExpr) → calls_in (V.Aggregate f args) ≡ (f, map (λ (a : WithCalls). a.0) (map with_calls args)) ∷ []
unfolding calls_in
step-Aggregate f args = ap calls_in (sym (V.rolls-Aggregate f args)) ∙ para-roll-BExpr Calls calls_step (BExpr-F.Aggregate f args)

pub calls-Aggregate : (f : Aggregate) (args : List BExpr) → calls_in (V.Aggregate f args) ≡ (f, args) ∷ []
calls-Aggregate f args = step-Aggregate f args ∙ ap (λ (es : List BExpr). (f, es) ∷ []) (exprs-again args)

-- Several, one behind another.

pub flat-more : {X A : Type 0} (f : X → List A) (xs : List X) (k : ℕ) (x : X) → k < length xs → x ≡ get_or xs k x → flat_map f (take (k + 1) xs) ≡ flat_map f (take k xs) ++ f x
flat-more f xs k x lt is =
    ap (flat_map f) (take_more xs k x lt)
    ∙ (flat_map-append f (take k xs) (get_or xs k x ∷ [])
    ∙ ap (λ ys. flat_map f (take k xs) ++ ys) (append-nil (f (get_or xs k x)) ∙ ap f (sym is)))

pub behind-more : {X A B : Type 0} (f : X → List A) (xs : List X) (k : ℕ) (x : X) (cs old new : List B) → k < length xs → x ≡ get_or xs k x → old ≡ drop (length (flat_map f (take k xs))) cs → new ≡ drop (length (f x)) old → new ≡ drop (length (flat_map f (take (k + 1) xs))) cs
behind-more f xs k x cs old new lt is before after =
    after
    ∙ (ap (drop (length (f x))) before
    ∙ (drop-drop (length (f x)) (length (flat_map f (take k xs))) cs
    ∙ ap (λ n. drop n cs) (sym (ap length (flat-more f xs k x lt is) ∙ length-append (flat_map f (take k xs)) (f x)))))

-- The calls in an expression that fits over groups fit.

abbrev Fit : List Column → Calls → Type 0
Fit cs calls = AllByRecursion (λ (c : Aggregate × List BExpr). IsCall cs c.0 c.1) calls

abbrev over_groups : List Column → BExpr → Bool
over_groups cs e = expr_fits e (scope_of cs) position.Group

abbrev HasCallsThatFit : BExpr → Type 0
HasCallsThatFit e = (cs : List Column) → over_groups cs e ≡ true → Fit cs (calls_in e)

pub all-beside : {X : Type 0} (P : X → Type 0) (xs ys : List X) → AllByRecursion P xs → AllByRecursion P ys → AllByRecursion P (xs ++ ys)
all-beside P [] ys h g = g
all-beside P (x ∷ xs) ys h g = (h.0, all-beside P xs ys h.1 g)

abbrev Given : Type 0
Given = (e : BExpr) × HasCallsThatFit e

abbrev bare : Given → BExpr
bare p = p.0

abbrev bare_link : ChainSign × Given → ChainSign × BExpr
bare_link l = (l.0, l.1.0)

several-fit : (gs : List Given) (cs : List Column) → list_all (over_groups cs) (map bare gs) ≡ true → Fit cs (calls_in_all (map bare gs))
unfolding calls_in_all
several-fit [] cs h = tt
several-fit (g ∷ gs) cs h =
    let parts = and_parts (over_groups cs g.0) (list_all (over_groups cs) (map bare gs)) h in
    all-beside (λ (c : Aggregate × List BExpr). IsCall cs c.0 c.1) (calls_in g.0) (flat_map calls_in (map bare gs)) (g.1 cs parts.0) (several-fit gs cs parts.1)

links-that-fit : (ls : List (ChainSign × Given)) (cs : List Column) → list_all (λ (l : ChainSign × BExpr). over_groups cs l.1) (map bare_link ls) ≡ true → Fit cs (calls_along (map bare_link ls))
unfolding calls_along
links-that-fit [] cs h = tt
links-that-fit (l ∷ ls) cs h =
    let parts = and_parts (over_groups cs l.1.0) (list_all (λ (l : ChainSign × BExpr). over_groups cs l.1) (map bare_link ls)) h in
    all-beside (λ (c : Aggregate × List BExpr). IsCall cs c.0 c.1) (calls_in l.1.0) (flat_map (λ (l : ChainSign × BExpr). calls_in l.1) (map bare_link ls)) (l.1.1 cs parts.0) (links-that-fit ls cs parts.1)

of-links : (ls : List (ChainSign × BExpr)) (cs : List Column) → links_fit ls (scope_of cs) position.Group ≡ true → list_all (λ (l : ChainSign × BExpr). over_groups cs l.1) ls ≡ true
unfolding links_fit
of-links ls cs h = h

of-none : (e : BExpr) → calls_in e ≡ [] → HasCallsThatFit e
of-none e is cs h = subst (Fit cs) (sym is) tt

of-call : (f : Func) (gs : List Given) → HasCallsThatFit (V.Call f (map bare gs))
of-call f gs cs h =
    let args = map bare gs in
    let b = and_parts (is_callable f) (list_all (over_groups cs) args && (part_fits f args && is_some (call_kind f (kinds_in args cs)))) (sym (fits-Call f args (scope_of cs) position.Group) ∙ h) in
    let own = (and_parts (list_all (over_groups cs) args) (part_fits f args && is_some (call_kind f (kinds_in args cs))) b.1).0 in
    subst (Fit cs) (sym (calls-Call f args)) (several-fit gs cs own)

of-chain : (g : Given) (ls : List (ChainSign × Given)) → HasCallsThatFit (V.Chain g.0 (map bare_link ls))
of-chain g ls cs h =
    let links = map bare_link ls in
    let b = and_parts (over_groups cs g.0) (links_fit links (scope_of cs) position.Group && is_some (kind_along links cs (kind_of g.0 cs))) (sym (fits-Chain g.0 links (scope_of cs) position.Group) ∙ h) in
    let own = (and_parts (links_fit links (scope_of cs) position.Group) (is_some (kind_along links cs (kind_of g.0 cs))) b.1).0 in
    subst (Fit cs) (sym (calls-Chain g.0 links)) (all-beside (λ (c : Aggregate × List BExpr). IsCall cs c.0 c.1) (calls_in g.0) (calls_along links) (g.1 cs b.0) (links-that-fit ls cs (of-links links cs own)))

of-path : (g : Given) (gs : List Given) → HasCallsThatFit (V.Path g.0 (map bare gs))
of-path g gs cs h =
    let steps = map bare gs in
    let b = and_parts (over_groups cs g.0) (list_all (over_groups cs) steps && is_some (kind_down steps cs (kind_of g.0 cs))) (sym (fits-Path g.0 steps (scope_of cs) position.Group) ∙ h) in
    let own = (and_parts (list_all (over_groups cs) steps) (is_some (kind_down steps cs (kind_of g.0 cs))) b.1).0 in
    subst (Fit cs) (sym (calls-Path g.0 steps)) (all-beside (λ (c : Aggregate × List BExpr). IsCall cs c.0 c.1) (calls_in g.0) (calls_in_all steps) (g.1 cs b.0) (several-fit gs cs own))

of-aggregate : (f : Aggregate) (args : List BExpr) → HasCallsThatFit (V.Aggregate f args)
of-aggregate f args cs h =
    let b = and_parts (has_one_result f args) (aggregate_fits f (checked_args args) (scope_of cs) position.Group) (sym (fits-Aggregate f args (scope_of cs) position.Group) ∙ h) in
    subst (Fit cs) (sym (calls-Aggregate f args)) (record { fits = b.1 }, tt)

of-layer : (y : BExpr-F Given) → HasCallsThatFit (roll-BExpr (map-BExpr Given BExpr bare y))
of-layer (BExpr-F.Literal l) = subst HasCallsThatFit (sym (V.rolls-Literal l)) (of-none (V.Literal l) (calls-Literal l))
of-layer (BExpr-F.Column n) = subst HasCallsThatFit (sym (V.rolls-Column n)) (of-none (V.Column n) (calls-Column n))
of-layer (BExpr-F.Step c) = subst HasCallsThatFit (sym (V.rolls-Step c)) (of-none (V.Step c) (calls-Step c))
of-layer (BExpr-F.Call f gs) = subst HasCallsThatFit (sym (V.rolls-Call f (map bare gs))) (of-call f gs)
of-layer (BExpr-F.Chain g ls) = subst HasCallsThatFit (sym (V.rolls-Chain g.0 (map bare_link ls))) (of-chain g ls)
of-layer (BExpr-F.Path g gs) = subst HasCallsThatFit (sym (V.rolls-Path g.0 (map bare gs))) (of-path g gs)
of-layer (BExpr-F.Window f gs) = subst HasCallsThatFit (sym (V.rolls-Window f (map bare gs))) (of-none (V.Window f (map bare gs)) (calls-Window f (map bare gs)))
of-layer (BExpr-F.Aggregate f gs) = subst HasCallsThatFit (sym (V.rolls-Aggregate f (map bare gs))) (of-aggregate f (map bare gs))

pub calls_that_fit : (e : BExpr) → HasCallsThatFit e
calls_that_fit = ind-BExpr HasCallsThatFit (λ x y is. subst (λ (z : BExpr-F BExpr). HasCallsThatFit (roll-BExpr z)) is (of-layer y))
