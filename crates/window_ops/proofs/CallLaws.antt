-- The calls of `row_cumsum` and `row_number` in an expression, one equation for each variant, and the carries of calls one behind another.
use Rattle.std.proofs.Common.{◌≡◌, ◌<◌, ◌+◌, ℕ, suc, List, [], ◌∷◌, ◌++◌, map, length, get_or, take, drop, refl, ap, sym, ◌∙◌, subst, arith}
use Rattle.std.specs.List.{flat_map}
use Rattle.std.proofs.lemmas.Grind.{flat_map-append}
use Rattle.std.proofs.lemmas.List.{append-nil, drop-drop, length-append, take_more}
use Rattle.kql_cells.specs.Table.{Grid}
use Rattle.kql_functions.specs.declared.aggregate.Aggregate.{Aggregate}
use Rattle.kql_functions.specs.declared.func.Func.{Func}
use Rattle.kql_functions.specs.declared.window.Window.{Window}
use Rattle.kql_bound.specs.declared.expr.BExpr.{BExpr, para-roll-BExpr}
use Rattle.kql_bound.specs.declared.expr.BExpr.TheOpen.{BExpr-F}
use Rattle.kql_bound.specs.declared.expr.BExpr.TheVariants as V
use Rattle.kql_bound.specs.declared.expr.ChainSign.{ChainSign}
use Rattle.kql_bound.specs.declared.expr.StepColumn.{StepColumn}
use Rattle.kql_bound.specs.declared.expr.WinCall.{WinCall}
use Rattle.kql_bound.specs.declared.literal.Lit.{Lit}
use Rattle.window_ops.specs.Calls.{AreBefore, WithCalls, calls_along, calls_in, calls_of, calls_step, carry_of, first_of, own_calls}
use Rattle.window_ops.specs.Carries.{Carried, no_rows}
use Rattle.window_ops.proofs.CarryLaws.{carried-none}

abbrev with_calls : BExpr → WithCalls
with_calls e = (e, calls_of e)

abbrev link_with_calls : ChainSign × BExpr → ChainSign × WithCalls
link_with_calls l = (l.0, with_calls l.1)

in-several : (es : List BExpr) → flat_map (λ (a : WithCalls). a.1) (map with_calls es) ≡ calls_in es
unfolding calls_in
in-several [] = refl
in-several (e ∷ es) = ap (λ ws. calls_of e ++ ws) (in-several es)

in-links : (links : List (ChainSign × BExpr)) → flat_map (λ (l : ChainSign × WithCalls). l.1.1) (map link_with_calls links) ≡ calls_along links
unfolding calls_along
in-links [] = refl
in-links (l ∷ ls) = ap (λ ws. calls_of l.1 ++ ws) (in-links ls)

exprs-again : (es : List BExpr) → map (λ (a : WithCalls). a.0) (map with_calls es) ≡ es
exprs-again [] = refl
exprs-again (e ∷ es) = ap (λ (xs : List BExpr). e ∷ xs) (exprs-again es)

pub calls-Literal : (l : Lit) → calls_of (V.Literal l) ≡ []
unfolding calls_of
calls-Literal l = ap calls_of (sym (V.rolls-Literal l)) ∙ para-roll-BExpr (List WinCall) calls_step (BExpr-F.Literal l)

pub calls-Column : (n : List ℕ) → calls_of (V.Column n) ≡ []
unfolding calls_of
calls-Column n = ap calls_of (sym (V.rolls-Column n)) ∙ para-roll-BExpr (List WinCall) calls_step (BExpr-F.Column n)

pub calls-Step : (c : StepColumn) → calls_of (V.Step c) ≡ []
unfolding calls_of
calls-Step c = ap calls_of (sym (V.rolls-Step c)) ∙ para-roll-BExpr (List WinCall) calls_step (BExpr-F.Step c)

step-Call : (f : Func) (args : List BExpr) → calls_of (V.Call f args) ≡ flat_map (λ (a : WithCalls). a.1) (map with_calls args)
unfolding calls_of
step-Call f args = ap calls_of (sym (V.rolls-Call f args)) ∙ para-roll-BExpr (List WinCall) calls_step (BExpr-F.Call f args)

pub calls-Call : (f : Func) (args : List BExpr) → calls_of (V.Call f args) ≡ calls_in args
calls-Call f args = step-Call f args ∙ in-several args

step-Chain : (first : BExpr) (links : List (ChainSign × BExpr)) → calls_of (V.Chain first links) ≡ calls_of first ++ flat_map (λ (l : ChainSign × WithCalls). l.1.1) (map link_with_calls links)
unfolding calls_of
step-Chain first links = ap calls_of (sym (V.rolls-Chain first links)) ∙ para-roll-BExpr (List WinCall) calls_step (BExpr-F.Chain first links)

pub calls-Chain : (first : BExpr) (links : List (ChainSign × BExpr)) → calls_of (V.Chain first links) ≡ calls_of first ++ calls_along links
calls-Chain first links = step-Chain first links ∙ ap (λ ws. calls_of first ++ ws) (in-links links)

step-Path : (whole : BExpr) (steps : List BExpr) → calls_of (V.Path whole steps) ≡ calls_of whole ++ flat_map (λ (a : WithCalls). a.1) (map with_calls steps)
unfolding calls_of
step-Path whole steps = ap calls_of (sym (V.rolls-Path whole steps)) ∙ para-roll-BExpr (List WinCall) calls_step (BExpr-F.Path whole steps)

pub calls-Path : (whole : BExpr) (steps : List BExpr) → calls_of (V.Path whole steps) ≡ calls_of whole ++ calls_in steps
calls-Path whole steps = step-Path whole steps ∙ ap (λ ws. calls_of whole ++ ws) (in-several steps)

step-Window : (f : Window) (args : List BExpr) → calls_of (V.Window f args) ≡ own_calls f (map (λ (a : WithCalls). a.0) (map with_calls args))
unfolding calls_of
step-Window f args = ap calls_of (sym (V.rolls-Window f args)) ∙ para-roll-BExpr (List WinCall) calls_step (BExpr-F.Window f args)

pub calls-Window : (f : Window) (args : List BExpr) → calls_of (V.Window f args) ≡ own_calls f args
calls-Window f args = step-Window f args ∙ ap (own_calls f) (exprs-again args)

pub calls-Aggregate : (f : Aggregate) (args : List BExpr) → calls_of (V.Aggregate f args) ≡ []
unfolding calls_of
calls-Aggregate f args = ap calls_of (sym (V.rolls-Aggregate f args)) ∙ para-roll-BExpr (List WinCall) calls_step (BExpr-F.Aggregate f args)

-- Several, one behind another.

pub flat-more : {X A : Type 0} (f : X → List A) (xs : List X) (k : ℕ) (x : X) → k < length xs → x ≡ get_or xs k x → flat_map f (take (k + 1) xs) ≡ flat_map f (take k xs) ++ f x
flat-more f xs k x lt is =
    ap (flat_map f) (take_more xs k x lt)
    ∙ (flat_map-append f (take k xs) (get_or xs k x ∷ [])
    ∙ ap (λ ys. flat_map f (take k xs) ++ ys) (append-nil (f (get_or xs k x)) ∙ ap f (sym is)))

pub behind-more : {X A B : Type 0} (f : X → List A) (xs : List X) (k : ℕ) (x : X) (cs old new : List B) → k < length xs → x ≡ get_or xs k x → old ≡ drop (length (flat_map f (take k xs))) cs → new ≡ drop (length (f x)) old → new ≡ drop (length (flat_map f (take (k + 1) xs))) cs
behind-more f xs k x cs old new lt is before after =
    after
    ∙ (ap (drop (length (f x))) before
    ∙ (drop-drop (length (f x)) (length (flat_map f (take k xs))) cs
    ∙ ap (λ n. drop n cs) (sym (ap length (flat-more f xs k x lt is) ∙ length-append (flat_map f (take k xs)) (f x)))))

-- Carries of calls one behind another.

pub before-parts : (v w : List WinCall) (t : Grid) (from : ℕ) (cs : List Carried) → AreBefore (v ++ w) t from cs → AreBefore v t from cs × AreBefore w t from (drop (length v) cs)
unfolding AreBefore
before-parts [] w t from cs h = (tt, h)
before-parts (c ∷ v) w t from cs h =
    let b = before-parts v w t from (drop 1 cs) h.1 in
    let one : 1 + length v ≡ suc (length v) = omega arith in
    ((h.0, b.0), subst (AreBefore w t from) (drop-drop (length v) 1 cs ∙ ap (λ n. drop n cs) one) b.1)

no-rows-before : (w : WinCall) (t : Grid) → no_rows ≡ carry_of w t 0 0
unfolding carry_of
no-rows-before w t = sym (carried-none _ _ 0 0 (omega arith))

-- Before the first row.
pub before-first : (ws : List WinCall) (t : Grid) → AreBefore ws t 0 []
unfolding AreBefore first_of
before-first [] t = tt
before-first (w ∷ ws) t = (no-rows-before w t, before-first ws t)

-- Carries that are those of the calls.
pub before-all : (ws : List WinCall) (t : Grid) (from : ℕ) → AreBefore ws t from (map (λ w. carry_of w t 0 from) ws)
unfolding AreBefore first_of
before-all [] t from = tt
before-all (w ∷ ws) t from = (refl, before-all ws t from)
