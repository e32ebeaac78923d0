-- The value of an expression over a group, part by part.
use Rattle.std.proofs.Common.{◌≡◌, ◌<◌, ◌≤◌, ◌+◌, ℕ, zero, suc, List, [], ◌∷◌, ◌++◌, drop, fold, get_or, length, take, refl, ap, ap₂, sym, ◌∙◌, subst, arith}
use Rattle.std.proofs.lemmas.List.{drop-drop, drop_more, map-append, take_all, take_more}
use Rattle.std.proofs.lemmas.List.Sums.{fold_more}
use Rattle.kql_cells.specs.Table.{Grid}
use Rattle.kql_cells.specs.Values.{IsWellFormed}
use Rattle.kql_cells.specs.declared.schema.Column.{Column}
use Rattle.kql_cells.specs.declared.value.Value.{Value}
use Rattle.kql_cells.specs.declared.value.Value.TheVariants as value
use Rattle.kql_functions.specs.declared.aggregate.Aggregate.{Aggregate}
use Rattle.kql_functions.specs.declared.func.Func.{Func}
use Rattle.kql_scalar_fns.specs.Applied.{applied}
use Rattle.kql_scalar_fns.specs.Arguments.{AreWellFormed, argument}
use Rattle.kql_bound.specs.Signs.{sign_func}
use Rattle.kql_bound.specs.declared.expr.BExpr.{BExpr}
use Rattle.kql_bound.specs.declared.expr.BExpr.TheVariants as V
use Rattle.kql_bound.specs.declared.expr.ChainSign.{ChainSign}
use Rattle.kql_bound.specs.declared.literal.Lit.{Lit}
use Rattle.kql_meaning.specs.Expressions.{chain_value, look, path_value, val, value_along, value_down, values_in}
use Rattle.kql_meaning.proofs.ValueLaws.{val-Call, val-Chain, val-Literal, val-Path}
use Rattle.summarize_op.specs.Grouped.{IsGrouped}
use Rattle.summarize_pieces.proofs.PartSteps.{grouped_literal}
use Rattle.summarize_pieces.specs.Calls.{AreGiven, calls_along, calls_in, calls_in_all}
use Rattle.summarize_pieces.proofs.CallLaws.{calls-Aggregate, calls-Call, calls-Chain, calls-Path}

abbrev Calls : Type 0
Calls = List (Aggregate × List BExpr)

-- Well formed values behind others.

form-drop : (n : ℕ) (vs : List Value) → AreWellFormed vs → AreWellFormed (drop n vs)
form-drop zero vs h = h
form-drop (suc n) [] h = record { each = λ k d l. absurd (omega arith) }
form-drop (suc n) (v ∷ vs) h = form-drop n vs (record { each = λ k d l. h.each (suc k) d (omega (arith, l)) })

pub behind-formed : (n : ℕ) (vs rest : List Value) → AreWellFormed vs → rest ≡ drop n vs → AreWellFormed rest
behind-formed n vs rest h is = subst AreWellFormed (sym is) (form-drop n vs h)

pub ruleset form_steps = (behind-formed)

-- The first value.

pub null-formed : IsWellFormed value.Null
null-formed = tt

pub first-none : (vs : List Value) → length vs < 1 → value.Null ≡ argument vs 0
unfolding argument
first-none [] l = refl
first-none (v ∷ vs) l = absurd (omega arith)

pub first-some : (vs : List Value) (v w : Value) → 1 ≤ length vs → v ≡ get_or vs 0 v → w ≡ v → w ≡ argument vs 0
unfolding argument
first-some [] v w l is same = absurd (omega arith)
first-some (x ∷ vs) v w l is same = same ∙ is

pub first-formed : (vs : List Value) (v w : Value) → AreWellFormed vs → 1 ≤ length vs → v ≡ get_or vs 0 v → w ≡ v → IsWellFormed w
first-formed vs v w h l is same = subst IsWellFormed (sym (same ∙ is)) (h.each 0 v l)

pub ruleset first_steps = (null-formed, first-none, first-some, first-formed)

-- What is given to the parts.

pub given-parts : (cs ds : Calls) (u : Grid) (vs : List Value) → AreGiven (cs ++ ds) u vs → AreGiven cs u vs × AreGiven ds u (drop (length cs) vs)
unfolding AreGiven
given-parts [] ds u vs h = (tt, h)
given-parts (c ∷ cs) ds u vs h =
    let b = given-parts cs ds u (drop 1 vs) h.1 in
    let one : 1 + length cs ≡ suc (length cs) = omega arith in
    ((h.0, b.0), subst (AreGiven ds u) (drop-drop (length cs) 1 vs ∙ ap (λ n. drop n vs) one) b.1)

moved : (e x : BExpr) (cs : Calls) (u : Grid) (vs : List Value) → e ≡ x → calls_in x ≡ cs → AreGiven (calls_in e) u vs → AreGiven cs u vs
moved e x cs u vs is calls h = subst (λ (ds : Calls). AreGiven ds u vs) (ap calls_in is ∙ calls) h

pub given-args : (e : BExpr) (f : Func) (args : List BExpr) (u : Grid) (vs : List Value) → e ≡ V.Call f args → AreGiven (calls_in e) u vs → AreGiven (calls_in_all args) u vs
given-args e f args u vs is h = moved e (V.Call f args) (calls_in_all args) u vs is (calls-Call f args) h

pub given-chain : (e first : BExpr) (links : List (ChainSign × BExpr)) (u : Grid) (vs rest : List Value) → e ≡ V.Chain first links → rest ≡ drop (length (calls_in first)) vs → AreGiven (calls_in e) u vs → AreGiven (calls_in first) u vs × AreGiven (calls_along links) u rest
given-chain e first links u vs rest is behind h =
    let b = given-parts (calls_in first) (calls_along links) u vs (moved e (V.Chain first links) (calls_in first ++ calls_along links) u vs is (calls-Chain first links) h) in
    (b.0, subst (AreGiven (calls_along links) u) (sym behind) b.1)

pub given-path : (e whole : BExpr) (steps : List BExpr) (u : Grid) (vs rest : List Value) → e ≡ V.Path whole steps → rest ≡ drop (length (calls_in whole)) vs → AreGiven (calls_in e) u vs → AreGiven (calls_in whole) u vs × AreGiven (calls_in_all steps) u rest
given-path e whole steps u vs rest is behind h =
    let b = given-parts (calls_in whole) (calls_in_all steps) u vs (moved e (V.Path whole steps) (calls_in whole ++ calls_in_all steps) u vs is (calls-Path whole steps) h) in
    (b.0, subst (AreGiven (calls_in_all steps) u) (sym behind) b.1)

-- One expression.

pub value-Literal : (e : BExpr) (l : Lit) (v : Value) (u : Grid) → e ≡ V.Literal l → v ≡ l.value → v ≡ val e u 0 []
value-Literal e l v u is same = same ∙ (sym (val-Literal l u 0 []) ∙ ap (λ (x : BExpr). val x u 0 []) (sym is))

pub form-Literal : (cs : List Column) (e : BExpr) (l : Lit) (v : Value) → IsGrouped cs e → e ≡ V.Literal l → v ≡ l.value → IsWellFormed v
form-Literal cs e l v h is same = subst IsWellFormed (sym same) (grouped_literal cs e l h is)

pub value-Call : (e : BExpr) (f : Func) (args : List BExpr) (vs : List Value) (v : Value) (u : Grid) → e ≡ V.Call f args → vs ≡ values_in args u 0 [] → v ≡ applied f vs → v ≡ val e u 0 []
value-Call e f args vs v u is made same = same ∙ (ap (applied f) made ∙ (sym (val-Call f args u 0 []) ∙ ap (λ (x : BExpr). val x u 0 []) (sym is)))

pub value-Chain : (e first : BExpr) (links : List (ChainSign × BExpr)) (left v : Value) (u : Grid) → e ≡ V.Chain first links → left ≡ val first u 0 [] → v ≡ value_along links u 0 [] left → v ≡ val e u 0 []
value-Chain e first links left v u is front same = same ∙ (ap (value_along links u 0 []) front ∙ (sym (val-Chain first links u 0 []) ∙ ap (λ (x : BExpr). val x u 0 []) (sym is)))

pub value-Path : (e whole : BExpr) (steps : List BExpr) (left v : Value) (u : Grid) → e ≡ V.Path whole steps → left ≡ val whole u 0 [] → v ≡ value_down steps u 0 [] left → v ≡ val e u 0 []
value-Path e whole steps left v u is front same = same ∙ (ap (value_down steps u 0 []) front ∙ (sym (val-Path whole steps u 0 []) ∙ ap (λ (x : BExpr). val x u 0 []) (sym is)))

given-first : (f : Aggregate) (args : List BExpr) (u : Grid) (vs : List Value) → AreGiven ((f, args) ∷ []) u vs → argument vs 0 ≡ val (V.Aggregate f args) u 0 []
unfolding AreGiven
given-first f args u vs h = h.0

pub value-Aggregate : (e : BExpr) (f : Aggregate) (args : List BExpr) (vs : List Value) (v : Value) (u : Grid) → e ≡ V.Aggregate f args → AreGiven (calls_in e) u vs → v ≡ argument vs 0 → v ≡ val e u 0 []
value-Aggregate e f args vs v u is h same =
    same ∙ (given-first f args u vs (moved e (V.Aggregate f args) ((f, args) ∷ []) u vs is (calls-Aggregate f args) h) ∙ ap (λ (x : BExpr). val x u 0 []) (sym is))

pub ruleset value_steps = (form-Literal)

-- Several expressions.

head-given : (e : BExpr) (es : List BExpr) (u : Grid) (vs : List Value) → AreGiven (calls_in_all (e ∷ es)) u vs → AreGiven (calls_in e) u vs × AreGiven (calls_in_all es) u (drop (length (calls_in e)) vs)
unfolding calls_in_all
head-given e es u vs h = given-parts (calls_in e) (calls_in_all es) u vs h

pub given-at : (es : List BExpr) (k : ℕ) (e : BExpr) (u : Grid) (vs rest : List Value) → k < length es → e ≡ get_or es k e → AreGiven (calls_in_all (drop k es)) u vs → rest ≡ drop (length (calls_in e)) vs → AreGiven (calls_in e) u vs × AreGiven (calls_in_all (drop (k + 1) es)) u rest
given-at es k e u vs rest lt is h behind =
    let q = head-given e (drop (k + 1) es) u vs (subst (λ (xs : List BExpr). AreGiven (calls_in_all xs) u vs) (drop_more es k e lt ∙ ap (λ (x : BExpr). x ∷ drop (k + 1) es) (sym is)) h) in
    (q.0, subst (AreGiven (calls_in_all (drop (k + 1) es)) u) (sym behind) q.1)

pub values-none : (es : List BExpr) (u : Grid) → values_in (take 0 es) u 0 [] ≡ []
unfolding values_in
values-none es u = refl

pub values-more : (es : List BExpr) (k : ℕ) (e : BExpr) (u : Grid) (v : Value) (old new : List Value) → k < length es → e ≡ get_or es k e → old ≡ values_in (take k es) u 0 [] → v ≡ val e u 0 [] → new ≡ old ++ v ∷ [] → new ≡ values_in (take (k + 1) es) u 0 []
unfolding values_in
values-more es k e u v old new lt is before value after =
    rw (take_more es k e lt, ← is, map-append (λ e. val e u 0 []) (take k es) (e ∷ []), ← before, ← value) after

pub values-end : (es : List BExpr) (k : ℕ) (u : Grid) (made : List Value) → length es ≤ k → made ≡ values_in (take k es) u 0 [] → made ≡ values_in es u 0 []
values-end es k u made le is = is ∙ ap (λ (xs : List BExpr). values_in xs u 0 []) (take_all k es le)

pub no-forms : AreWellFormed []
no-forms = record { each = λ k d l. absurd (omega arith) }

each-form : (v : Value) (vs : List Value) → IsWellFormed v → AreWellFormed vs → (k : ℕ) (d : Value) → k < length (v ∷ vs) → IsWellFormed (get_or (v ∷ vs) k d)
each-form v vs f h zero d l = f
each-form v vs f h (suc k) d l = h.each k d (omega arith)

form-push : (vs : List Value) (v : Value) → AreWellFormed vs → IsWellFormed v → AreWellFormed (vs ++ v ∷ [])
form-push [] v h f = record { each = each-form v [] f no-forms }
form-push (w ∷ vs) v h f = record { each = each-form w (vs ++ v ∷ []) (h.each 0 value.Null (omega arith)) (form-push vs v (record { each = λ k d l. h.each (suc k) d (omega (arith, l)) }) f) }

pub forms-more : (old new : List Value) (v : Value) → AreWellFormed old → IsWellFormed v → new ≡ old ++ v ∷ [] → AreWellFormed new
forms-more old new v h f after = subst AreWellFormed (sym after) (form-push old v h f)

pub ruleset list_steps = (no-forms, forms-more)

-- Links and steps.

abbrev link_step : Grid → Value → ChainSign × BExpr → Value
link_step u v l = applied (sign_func l.0) (v ∷ val l.1 u 0 [] ∷ [])

abbrev path_step : Grid → Value → BExpr → Value
path_step u v e = applied look (v ∷ val e u 0 [] ∷ [])

along-fold : (links : List (ChainSign × BExpr)) (u : Grid) (v : Value) → value_along links u 0 [] v ≡ fold (link_step u) v links
unfolding value_along chain_value
along-fold [] u v = refl
along-fold (l ∷ ls) u v = along-fold ls u (link_step u v l)

down-fold : (steps : List BExpr) (u : Grid) (v : Value) → value_down steps u 0 [] v ≡ fold (path_step u) v steps
unfolding value_down path_value values_in
down-fold [] u v = refl
down-fold (e ∷ es) u v = down-fold es u (path_step u v e)

pub along-more : (links : List (ChainSign × BExpr)) (k : ℕ) (l : ChainSign × BExpr) (f : Func) (right : BExpr) (u : Grid) (first old new : Value) → k < length links → l ≡ get_or links k l → f ≡ sign_func l.0 → right ≡ l.1 → old ≡ value_along (take k links) u 0 [] first → new ≡ applied f (old ∷ val right u 0 [] ∷ []) → new ≡ value_along (take (k + 1) links) u 0 [] first
along-more links k l f right u first old new lt is named part before after =
    after
    ∙ (ap₂ (λ (g : Func) (e : BExpr). applied g (old ∷ val e u 0 [] ∷ [])) named part
    ∙ (ap₂ (λ (v : Value) (m : ChainSign × BExpr). link_step u v m) (before ∙ along-fold (take k links) u first) is
    ∙ (sym (fold_more (link_step u) first links k l lt) ∙ sym (along-fold (take (k + 1) links) u first))))

pub along-end : (links : List (ChainSign × BExpr)) (k : ℕ) (u : Grid) (first made : Value) → length links ≤ k → made ≡ value_along (take k links) u 0 [] first → made ≡ value_along links u 0 [] first
along-end links k u first made le is = is ∙ ap (λ (ls : List (ChainSign × BExpr)). value_along ls u 0 [] first) (take_all k links le)

pub along-none : (links : List (ChainSign × BExpr)) (u : Grid) (first : Value) → first ≡ value_along (take 0 links) u 0 [] first
unfolding value_along chain_value
along-none links u first = refl

pub down-more : (steps : List BExpr) (k : ℕ) (e : BExpr) (f : Func) (u : Grid) (first old new : Value) → k < length steps → e ≡ get_or steps k e → f ≡ look → old ≡ value_down (take k steps) u 0 [] first → new ≡ applied f (old ∷ val e u 0 [] ∷ []) → new ≡ value_down (take (k + 1) steps) u 0 [] first
down-more steps k e f u first old new lt is named before after =
    after
    ∙ (ap (λ (g : Func). applied g (old ∷ val e u 0 [] ∷ [])) named
    ∙ (ap₂ (λ (v : Value) (x : BExpr). path_step u v x) (before ∙ down-fold (take k steps) u first) is
    ∙ (sym (fold_more (path_step u) first steps k e lt) ∙ sym (down-fold (take (k + 1) steps) u first))))

pub down-end : (steps : List BExpr) (k : ℕ) (u : Grid) (first made : Value) → length steps ≤ k → made ≡ value_down (take k steps) u 0 [] first → made ≡ value_down steps u 0 [] first
down-end steps k u first made le is = is ∙ ap (λ (es : List BExpr). value_down es u 0 [] first) (take_all k steps le)

pub down-none : (steps : List BExpr) (u : Grid) (first : Value) → first ≡ value_down (take 0 steps) u 0 [] first
unfolding value_down path_value values_in
down-none steps u first = refl

head-link : (l : ChainSign × BExpr) (ls : List (ChainSign × BExpr)) (u : Grid) (vs : List Value) → AreGiven (calls_along (l ∷ ls)) u vs → AreGiven (calls_in l.1) u vs × AreGiven (calls_along ls) u (drop (length (calls_in l.1)) vs)
unfolding calls_along
head-link l ls u vs h = given-parts (calls_in l.1) (calls_along ls) u vs h

pub given-link : (ls : List (ChainSign × BExpr)) (k : ℕ) (l : ChainSign × BExpr) (right : BExpr) (u : Grid) (vs rest : List Value) → k < length ls → l ≡ get_or ls k l → right ≡ l.1 → AreGiven (calls_along (drop k ls)) u vs → rest ≡ drop (length (calls_in right)) vs → AreGiven (calls_in right) u vs × AreGiven (calls_along (drop (k + 1) ls)) u rest
given-link ls k l right u vs rest lt is part h behind =
    let q = head-link l (drop (k + 1) ls) u vs (subst (λ (xs : List (ChainSign × BExpr)). AreGiven (calls_along xs) u vs) (drop_more ls k l lt ∙ ap (λ (x : ChainSign × BExpr). x ∷ drop (k + 1) ls) (sym is)) h) in
    (subst (λ (e : BExpr). AreGiven (calls_in e) u vs) (sym part) q.0, subst (AreGiven (calls_along (drop (k + 1) ls)) u) (sym (behind ∙ ap (λ (e : BExpr). drop (length (calls_in e)) vs) part)) q.1)

-- Two values.

pub two-formed : (a b : Value) (vs : List Value) → IsWellFormed a → IsWellFormed b → vs ≡ a ∷ b ∷ [] → AreWellFormed vs
two-formed a b vs f g is = subst AreWellFormed (sym is) (record { each = each-form a (b ∷ []) f (record { each = each-form b [] g no-forms }) })

pub ruleset both_steps = (two-formed)
