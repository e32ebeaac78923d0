-- The carries of a range for the calls in expressions, one after another.
use Rattle.std.proofs.Common.{◌≡◌, ◌<◌, ◌+◌, ℕ, List, [], ◌∷◌, ◌++◌, length, get_or, take, refl, ap, sym, ◌∙◌}
use Rattle.std.specs.List.{flat_map}
use Rattle.std.proofs.lemmas.List.{append-nil, append_assoc, map-append}
use Rattle.kql_cells.specs.Table.{Grid}
use Rattle.kql_functions.specs.Names.{window_name}
use Rattle.kql_functions.specs.declared.aggregate.Aggregate.{Aggregate}
use Rattle.kql_functions.specs.declared.func.Func.{Func}
use Rattle.kql_functions.specs.declared.window.Window.{Window}
use Rattle.kql_functions.specs.declared.window.Window.TheVariants as window
use Rattle.kql_bound.specs.declared.expr.BExpr.{BExpr}
use Rattle.kql_bound.specs.declared.expr.BExpr.TheVariants as V
use Rattle.kql_bound.specs.declared.expr.ChainSign.{ChainSign}
use Rattle.kql_bound.specs.declared.expr.StepColumn.{StepColumn}
use Rattle.kql_bound.specs.declared.expr.WinCall.{WinCall}
use Rattle.kql_bound.specs.declared.literal.Lit.{Lit}
use Rattle.kql_bound.specs.declared.parts.BItem.{BItem}
use Rattle.window_ops.specs.Calls.{call_of, calls_along, calls_in, calls_of, calls_of_items, carries_of, carry_of, own_calls}
use Rattle.window_ops.specs.Carries.{Carried}
use Rattle.window_ops.proofs.CallLaws.{calls-Aggregate, calls-Call, calls-Chain, calls-Column, calls-Literal, calls-Path, calls-Step, calls-Window, flat-more}

carries-both : (v w : List WinCall) (t : Grid) (from to : ℕ) → carries_of (v ++ w) t from to ≡ carries_of v t from to ++ carries_of w t from to
unfolding carries_of
carries-both v w t from to = map-append (λ (x : WinCall). carry_of x t from to) v w

-- One expression.

along : (e x : BExpr) (ws : List WinCall) (t : Grid) (from to : ℕ) (old new : List Carried) → e ≡ x → calls_of x ≡ ws → new ≡ old ++ carries_of ws t from to → new ≡ old ++ carries_of (calls_of e) t from to
along e x ws t from to old new is calls made = made ∙ ap (λ vs. old ++ carries_of vs t from to) (sym (ap calls_of is ∙ calls))

none : (e x : BExpr) (t : Grid) (from to : ℕ) (cs : List Carried) → e ≡ x → calls_of x ≡ [] → cs ≡ cs ++ carries_of (calls_of e) t from to
unfolding carries_of
none e x t from to cs is calls = along e x [] t from to cs cs is calls (sym (append-nil cs))

pub push-Literal : (e : BExpr) (l : Lit) (t : Grid) (from to : ℕ) (cs : List Carried) → e ≡ V.Literal l → cs ≡ cs ++ carries_of (calls_of e) t from to
push-Literal e l t from to cs is = none e (V.Literal l) t from to cs is (calls-Literal l)

pub push-Column : (e : BExpr) (n : List ℕ) (t : Grid) (from to : ℕ) (cs : List Carried) → e ≡ V.Column n → cs ≡ cs ++ carries_of (calls_of e) t from to
push-Column e n t from to cs is = none e (V.Column n) t from to cs is (calls-Column n)

pub push-Step : (e : BExpr) (c : StepColumn) (t : Grid) (from to : ℕ) (cs : List Carried) → e ≡ V.Step c → cs ≡ cs ++ carries_of (calls_of e) t from to
push-Step e c t from to cs is = none e (V.Step c) t from to cs is (calls-Step c)

pub push-Aggregate : (e : BExpr) (f : Aggregate) (args : List BExpr) (t : Grid) (from to : ℕ) (cs : List Carried) → e ≡ V.Aggregate f args → cs ≡ cs ++ carries_of (calls_of e) t from to
push-Aggregate e f args t from to cs is = none e (V.Aggregate f args) t from to cs is (calls-Aggregate f args)

pub push-Call : (e : BExpr) (f : Func) (args given : List BExpr) (t : Grid) (from to : ℕ) (old new : List Carried) → e ≡ V.Call f args → given ≡ args → new ≡ old ++ carries_of (calls_in given) t from to → new ≡ old ++ carries_of (calls_of e) t from to
push-Call e f args given t from to old new is same made =
    along e (V.Call f args) (calls_in args) t from to old new is (calls-Call f args) (made ∙ ap (λ (es : List BExpr). old ++ carries_of (calls_in es) t from to) same)

two : (v w : List WinCall) (t : Grid) (from to : ℕ) (old mid new : List Carried) → mid ≡ old ++ carries_of v t from to → new ≡ mid ++ carries_of w t from to → new ≡ old ++ carries_of (v ++ w) t from to
two v w t from to old mid new front made =
    made
    ∙ (ap (λ cs. cs ++ carries_of w t from to) front
    ∙ (append_assoc old (carries_of v t from to) (carries_of w t from to)
    ∙ ap (λ cs. old ++ cs) (sym (carries-both v w t from to))))

pub push-Chain : (e first x : BExpr) (links given : List (ChainSign × BExpr)) (t : Grid) (from to : ℕ) (old mid new : List Carried) → e ≡ V.Chain first links → x ≡ first → given ≡ links → mid ≡ old ++ carries_of (calls_of x) t from to → new ≡ mid ++ carries_of (calls_along given) t from to → new ≡ old ++ carries_of (calls_of e) t from to
push-Chain e first x links given t from to old mid new is same rest front made =
    along e (V.Chain first links) (calls_of first ++ calls_along links) t from to old new is (calls-Chain first links)
    (two (calls_of first) (calls_along links) t from to old mid new
    (front ∙ ap (λ (y : BExpr). old ++ carries_of (calls_of y) t from to) same)
    (made ∙ ap (λ (ls : List (ChainSign × BExpr)). mid ++ carries_of (calls_along ls) t from to) rest))

pub push-Path : (e whole x : BExpr) (steps given : List BExpr) (t : Grid) (from to : ℕ) (old mid new : List Carried) → e ≡ V.Path whole steps → x ≡ whole → given ≡ steps → mid ≡ old ++ carries_of (calls_of x) t from to → new ≡ mid ++ carries_of (calls_in given) t from to → new ≡ old ++ carries_of (calls_of e) t from to
push-Path e whole x steps given t from to old mid new is same rest front made =
    along e (V.Path whole steps) (calls_of whole ++ calls_in steps) t from to old new is (calls-Path whole steps)
    (two (calls_of whole) (calls_in steps) t from to old mid new
    (front ∙ ap (λ (y : BExpr). old ++ carries_of (calls_of y) t from to) same)
    (made ∙ ap (λ (es : List BExpr). mid ++ carries_of (calls_in es) t from to) rest))

window-calls : (f g : Window) (args : List BExpr) → f ≡ g → calls_of (V.Window f args) ≡ own_calls g args
window-calls f g args same = calls-Window f args ∙ ap (λ h. own_calls h args) same

pub push-Prev : (e : BExpr) (f : Window) (args : List BExpr) (t : Grid) (from to : ℕ) (cs : List Carried) → e ≡ V.Window f args → f ≡ window.Prev → cs ≡ cs ++ carries_of (calls_of e) t from to
unfolding own_calls
push-Prev e f args t from to cs is same = none e (V.Window f args) t from to cs is (window-calls f window.Prev args same)

pub push-Next : (e : BExpr) (f : Window) (args : List BExpr) (t : Grid) (from to : ℕ) (cs : List Carried) → e ≡ V.Window f args → f ≡ window.Next → cs ≡ cs ++ carries_of (calls_of e) t from to
unfolding own_calls
push-Next e f args t from to cs is same = none e (V.Window f args) t from to cs is (window-calls f window.Next args same)

pub push-RowCumsum : (e : BExpr) (f : Window) (args given : List BExpr) (t : Grid) (from to : ℕ) (old new : List Carried) → e ≡ V.Window f args → f ≡ window.RowCumsum → given ≡ args → new ≡ old ++ carry_of (call_of window.RowCumsum given) t from to ∷ [] → new ≡ old ++ carries_of (calls_of e) t from to
unfolding own_calls carries_of
push-RowCumsum e f args given t from to old new is same rest made =
    along e (V.Window f args) (own_calls window.RowCumsum args) t from to old new is (window-calls f window.RowCumsum args same)
    (made ∙ ap (λ (es : List BExpr). old ++ carry_of (call_of window.RowCumsum es) t from to ∷ []) rest)

pub push-RowNumber : (e : BExpr) (f : Window) (args given : List BExpr) (t : Grid) (from to : ℕ) (old new : List Carried) → e ≡ V.Window f args → f ≡ window.RowNumber → given ≡ args → new ≡ old ++ carry_of (call_of window.RowNumber given) t from to ∷ [] → new ≡ old ++ carries_of (calls_of e) t from to
unfolding own_calls carries_of
push-RowNumber e f args given t from to old new is same rest made =
    along e (V.Window f args) (own_calls window.RowNumber args) t from to old new is (window-calls f window.RowNumber args same)
    (made ∙ ap (λ (es : List BExpr). old ++ carry_of (call_of window.RowNumber es) t from to ∷ []) rest)

pub ruleset push_steps = (push-Literal, push-Column, push-Step, push-Aggregate, push-Call, push-Chain, push-Path, push-Prev, push-Next, push-RowCumsum, push-RowNumber)

-- One call.

pub call-pushed : (f : Window) (name : List ℕ) (args : List BExpr) (t : Grid) (from to : ℕ) (c : Carried) (old new : List Carried) → name ≡ window_name f → c ≡ carry_of (record { name = name; args = args }) t from to → new ≡ old ++ c ∷ [] → new ≡ old ++ carry_of (call_of f args) t from to ∷ []
unfolding call_of
call-pushed f name args t from to c old new is made after = after ∙ ap (λ x. old ++ x ∷ []) (made ∙ ap (λ ns. carry_of (record { name = ns; args = args }) t from to) is)

pub ruleset call_steps = (call-pushed)

-- Several.

more : {X : Type 0} (f : X → List WinCall) (xs : List X) (k : ℕ) (x y : X) (t : Grid) (from to : ℕ) (start old new : List Carried) → k < length xs → x ≡ get_or xs k x → f y ≡ f x → old ≡ start ++ carries_of (flat_map f (take k xs)) t from to → new ≡ old ++ carries_of (f y) t from to → new ≡ start ++ carries_of (flat_map f (take (k + 1) xs)) t from to
more f xs k x y t from to start old new lt is same before after =
    two (flat_map f (take k xs)) (f x) t from to start old new before (after ∙ ap (λ ws. old ++ carries_of ws t from to) same)
    ∙ ap (λ ws. start ++ carries_of ws t from to) (sym (flat-more f xs k x lt is))

pub several-none : (t : Grid) (from to : ℕ) (cs : List Carried) → cs ≡ cs ++ carries_of (calls_in []) t from to
unfolding calls_in carries_of
several-none t from to cs = sym (append-nil cs)

pub several-turn : (es : List BExpr) (k : ℕ) (e : BExpr) (t : Grid) (from to : ℕ) (start old new : List Carried) → k < length es → e ≡ get_or es k e → old ≡ start ++ carries_of (calls_in (take k es)) t from to → new ≡ old ++ carries_of (calls_of e) t from to → new ≡ start ++ carries_of (calls_in (take (k + 1) es)) t from to
unfolding calls_in
several-turn es k e t from to start old new lt is before after = more calls_of es k e e t from to start old new lt is refl before after

pub ruleset several_steps = (several-none, several-turn)

pub links-none : (t : Grid) (from to : ℕ) (cs : List Carried) → cs ≡ cs ++ carries_of (calls_along []) t from to
unfolding calls_along carries_of
links-none t from to cs = sym (append-nil cs)

pub links-turn : (ls : List (ChainSign × BExpr)) (k : ℕ) (l : ChainSign × BExpr) (x : BExpr) (t : Grid) (from to : ℕ) (start old new : List Carried) → k < length ls → l ≡ get_or ls k l → x ≡ l.1 → old ≡ start ++ carries_of (calls_along (take k ls)) t from to → new ≡ old ++ carries_of (calls_of x) t from to → new ≡ start ++ carries_of (calls_along (take (k + 1) ls)) t from to
unfolding calls_along
links-turn ls k l x t from to start old new lt is same before after =
    more (λ (l : ChainSign × BExpr). calls_of l.1) ls k l (l.0, x) t from to start old new lt is (ap calls_of same) before after

pub ruleset links_steps = (links-none, links-turn)

pub items-none : (t : Grid) (from to : ℕ) → [] ≡ carries_of (calls_of_items []) t from to
unfolding calls_of_items carries_of
items-none t from to = refl

pub items-turn : (items : List BItem) (k : ℕ) (b : BItem) (t : Grid) (from to : ℕ) (old new : List Carried) → k < length items → b ≡ get_or items k b → old ≡ carries_of (calls_of_items (take k items)) t from to → new ≡ old ++ carries_of (calls_of b.expr) t from to → new ≡ carries_of (calls_of_items (take (k + 1) items)) t from to
unfolding calls_of_items
items-turn items k b t from to old new lt is before after = more (λ (b : BItem). calls_of b.expr) items k b b t from to [] old new lt is refl before after

pub ruleset items_steps = (items-none, items-turn)
