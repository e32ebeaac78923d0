-- The carries behind those of the calls in expressions.
use Rattle.std.proofs.Common.{◌≡◌, ◌<◌, ◌≤◌, ◌+◌, ℕ, List, [], ◌∷◌, ◌++◌, length, get_or, take, drop, refl, ap, sym, ◌∙◌, arith}
use Rattle.std.proofs.lemmas.List.{length-append, drop-drop}
use Rattle.kql_functions.specs.declared.aggregate.Aggregate.{Aggregate}
use Rattle.kql_functions.specs.declared.func.Func.{Func}
use Rattle.kql_functions.specs.declared.window.Window.{Window}
use Rattle.kql_functions.specs.declared.window.Window.TheVariants as window
use Rattle.kql_bound.specs.declared.expr.BExpr.{BExpr}
use Rattle.kql_bound.specs.declared.expr.BExpr.TheVariants as V
use Rattle.kql_bound.specs.declared.expr.ChainSign.{ChainSign}
use Rattle.kql_bound.specs.declared.expr.StepColumn.{StepColumn}
use Rattle.kql_bound.specs.declared.expr.WinCall.{WinCall}
use Rattle.kql_bound.specs.declared.literal.Lit.{Lit}
use Rattle.window_ops.specs.Calls.{calls_along, calls_in, calls_of, first_of, own_calls}
use Rattle.window_ops.specs.Carries.{Carried, no_rows}
use Rattle.window_ops.proofs.CallLaws.{behind-more, calls-Aggregate, calls-Call, calls-Chain, calls-Column, calls-Literal, calls-Path, calls-Step, calls-Window}

-- The first carry, and the others.

pub first-none : (cs : List Carried) (c : Carried) → length cs < 1 → c ≡ no_rows → c ≡ first_of cs
unfolding first_of
first-none [] c l is = is
first-none (d ∷ cs) c l is = absurd (omega arith)

pub first-some : (cs : List Carried) (c d : Carried) → 1 ≤ length cs → d ≡ get_or cs 0 d → c ≡ d → c ≡ first_of cs
unfolding first_of
first-some [] c d l is same = absurd (omega arith)
first-some (e ∷ cs) c d l is same = same ∙ is

pub ruleset first_steps = (first-none, first-some)

pub others-none : (cs : List Carried) → length cs < 1 → cs ≡ drop 1 cs
others-none [] l = refl
others-none (c ∷ cs) l = absurd (omega arith)

pub ruleset other_steps = (others-none)

-- One expression.

along : (e x : BExpr) (ws : List WinCall) (cs r : List Carried) → e ≡ x → calls_of x ≡ ws → r ≡ drop (length ws) cs → r ≡ drop (length (calls_of e)) cs
along e x ws cs r is calls made = made ∙ ap (λ vs. drop (length vs) cs) (sym (ap calls_of is ∙ calls))

pub behind-Literal : (e : BExpr) (l : Lit) (cs : List Carried) → e ≡ V.Literal l → cs ≡ drop (length (calls_of e)) cs
behind-Literal e l cs is = along e (V.Literal l) [] cs cs is (calls-Literal l) refl

pub behind-Column : (e : BExpr) (n : List ℕ) (cs : List Carried) → e ≡ V.Column n → cs ≡ drop (length (calls_of e)) cs
behind-Column e n cs is = along e (V.Column n) [] cs cs is (calls-Column n) refl

pub behind-Step : (e : BExpr) (c : StepColumn) (cs : List Carried) → e ≡ V.Step c → cs ≡ drop (length (calls_of e)) cs
behind-Step e c cs is = along e (V.Step c) [] cs cs is (calls-Step c) refl

pub behind-Call : (e : BExpr) (f : Func) (args : List BExpr) (cs r : List Carried) → e ≡ V.Call f args → r ≡ drop (length (calls_in args)) cs → r ≡ drop (length (calls_of e)) cs
behind-Call e f args cs r is made = along e (V.Call f args) (calls_in args) cs r is (calls-Call f args) made

two : (v w : List WinCall) (cs mid r : List Carried) → mid ≡ drop (length v) cs → r ≡ drop (length w) mid → r ≡ drop (length (v ++ w)) cs
two v w cs mid r front made =
    made
    ∙ (ap (drop (length w)) front
    ∙ (drop-drop (length w) (length v) cs ∙ ap (λ n. drop n cs) (sym (length-append v w))))

pub behind-Chain : (e first : BExpr) (links : List (ChainSign × BExpr)) (cs mid r : List Carried) → e ≡ V.Chain first links → mid ≡ drop (length (calls_of first)) cs → r ≡ drop (length (calls_along links)) mid → r ≡ drop (length (calls_of e)) cs
behind-Chain e first links cs mid r is front made =
    along e (V.Chain first links) (calls_of first ++ calls_along links) cs r is (calls-Chain first links) (two (calls_of first) (calls_along links) cs mid r front made)

pub behind-Path : (e whole : BExpr) (steps : List BExpr) (cs mid r : List Carried) → e ≡ V.Path whole steps → mid ≡ drop (length (calls_of whole)) cs → r ≡ drop (length (calls_in steps)) mid → r ≡ drop (length (calls_of e)) cs
behind-Path e whole steps cs mid r is front made =
    along e (V.Path whole steps) (calls_of whole ++ calls_in steps) cs r is (calls-Path whole steps) (two (calls_of whole) (calls_in steps) cs mid r front made)

pub behind-Aggregate : (e : BExpr) (f : Aggregate) (args : List BExpr) (cs : List Carried) → e ≡ V.Aggregate f args → cs ≡ drop (length (calls_of e)) cs
behind-Aggregate e f args cs is = along e (V.Aggregate f args) [] cs cs is (calls-Aggregate f args) refl

window-calls : (f g : Window) (args : List BExpr) → f ≡ g → calls_of (V.Window f args) ≡ own_calls g args
window-calls f g args same = calls-Window f args ∙ ap (λ h. own_calls h args) same

pub behind-Prev : (e : BExpr) (f : Window) (args : List BExpr) (cs : List Carried) → e ≡ V.Window f args → f ≡ window.Prev → cs ≡ drop (length (calls_of e)) cs
unfolding own_calls
behind-Prev e f args cs is same = along e (V.Window f args) [] cs cs is (window-calls f window.Prev args same) refl

pub behind-Next : (e : BExpr) (f : Window) (args : List BExpr) (cs : List Carried) → e ≡ V.Window f args → f ≡ window.Next → cs ≡ drop (length (calls_of e)) cs
unfolding own_calls
behind-Next e f args cs is same = along e (V.Window f args) [] cs cs is (window-calls f window.Next args same) refl

pub behind-RowCumsum : (e : BExpr) (f : Window) (args : List BExpr) (cs r : List Carried) → e ≡ V.Window f args → f ≡ window.RowCumsum → r ≡ drop 1 cs → r ≡ drop (length (calls_of e)) cs
unfolding own_calls
behind-RowCumsum e f args cs r is same made = along e (V.Window f args) (own_calls window.RowCumsum args) cs r is (window-calls f window.RowCumsum args same) made

pub behind-RowNumber : (e : BExpr) (f : Window) (args : List BExpr) (cs r : List Carried) → e ≡ V.Window f args → f ≡ window.RowNumber → r ≡ drop 1 cs → r ≡ drop (length (calls_of e)) cs
unfolding own_calls
behind-RowNumber e f args cs r is same made = along e (V.Window f args) (own_calls window.RowNumber args) cs r is (window-calls f window.RowNumber args same) made

pub ruleset behind_steps = (behind-Literal, behind-Column, behind-Step, behind-Call, behind-Chain, behind-Path, behind-Aggregate, behind-Prev, behind-Next, behind-RowCumsum, behind-RowNumber)

-- Several.

pub several-none : (cs : List Carried) → cs ≡ drop (length (calls_in [])) cs
unfolding calls_in
several-none cs = refl

pub several-turn : (es : List BExpr) (k : ℕ) (e : BExpr) (cs old new : List Carried) → k < length es → e ≡ get_or es k e → old ≡ drop (length (calls_in (take k es))) cs → new ≡ drop (length (calls_of e)) old → new ≡ drop (length (calls_in (take (k + 1) es))) cs
unfolding calls_in
several-turn es k e cs old new lt is before after = behind-more calls_of es k e cs old new lt is before after

pub ruleset several_steps = (several-none, several-turn)

pub links-none : (cs : List Carried) → cs ≡ drop (length (calls_along [])) cs
unfolding calls_along
links-none cs = refl

pub links-turn : (links : List (ChainSign × BExpr)) (k : ℕ) (l : ChainSign × BExpr) (cs old new : List Carried) → k < length links → l ≡ get_or links k l → old ≡ drop (length (calls_along (take k links))) cs → new ≡ drop (length (calls_of l.1)) old → new ≡ drop (length (calls_along (take (k + 1) links))) cs
unfolding calls_along
links-turn links k l cs old new lt is before after = behind-more (λ (l : ChainSign × BExpr). calls_of l.1) links k l cs old new lt is before after

pub ruleset links_steps = (links-none, links-turn)
