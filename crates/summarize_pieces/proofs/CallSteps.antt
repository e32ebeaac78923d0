-- Walks over the calls in expressions.
use Rattle.std.proofs.Common.{◌≡◌, ◌<◌, ◌≤◌, ◌+◌, ℕ, List, [], ◌∷◌, ◌++◌, length, get_or, take, drop, refl, ap, sym, ◌∙◌, append_assoc, arith}
use Rattle.std.specs.List.{flat_map}
use Rattle.std.proofs.lemmas.List.{append-nil, drop-drop, length-append, take_all}
use Rattle.kql_cells.specs.declared.value.Value.{Value}
use Rattle.kql_functions.specs.declared.aggregate.Aggregate.{Aggregate}
use Rattle.kql_functions.specs.declared.func.Func.{Func}
use Rattle.kql_functions.specs.declared.window.Window.{Window}
use Rattle.kql_bound.specs.declared.expr.BExpr.{BExpr}
use Rattle.kql_bound.specs.declared.expr.BExpr.TheVariants as V
use Rattle.kql_bound.specs.declared.expr.ChainSign.{ChainSign}
use Rattle.kql_bound.specs.declared.expr.StepColumn.{StepColumn}
use Rattle.kql_bound.specs.declared.literal.Lit.{Lit}
use Rattle.kql_bound.specs.declared.parts.BItem.{BItem}
use Rattle.summarize_pieces.specs.Calls.{calls_along, calls_in, calls_in_all, calls_of, item_calls}
use Rattle.summarize_pieces.proofs.CallLaws.{behind-more, calls-Aggregate, calls-Call, calls-Chain, calls-Column, calls-Literal, calls-Path, calls-Step, calls-Window, flat-more}

abbrev Calls : Type 0
Calls = List (Aggregate × List BExpr)

-- Calls behind others, one part after another.

push-more : {X : Type 0} (f : X → Calls) (xs : List X) (k : ℕ) (x : X) (first old new : Calls) → k < length xs → x ≡ get_or xs k x → old ≡ first ++ flat_map f (take k xs) → new ≡ old ++ f x → new ≡ first ++ flat_map f (take (k + 1) xs)
push-more f xs k x first old new lt is before after =
    after
    ∙ (ap (λ (cs : Calls). cs ++ f x) before
    ∙ (append_assoc first (flat_map f (take k xs)) (f x) ∙ ap (λ (cs : Calls). first ++ cs) (sym (flat-more f xs k x lt is))))

push-end : {X : Type 0} (f : X → Calls) (xs : List X) (k : ℕ) (first made : Calls) → length xs ≤ k → made ≡ first ++ flat_map f (take k xs) → made ≡ first ++ flat_map f xs
push-end f xs k first made le is = is ∙ ap (λ ys. first ++ flat_map f ys) (take_all k xs le)

pub several-start : (old : Calls) → old ≡ old ++ calls_in_all []
unfolding calls_in_all
several-start old = sym (append-nil old)

pub several-more : (es : List BExpr) (k : ℕ) (e : BExpr) (first old new : Calls) → k < length es → e ≡ get_or es k e → old ≡ first ++ calls_in_all (take k es) → new ≡ old ++ calls_in e → new ≡ first ++ calls_in_all (take (k + 1) es)
unfolding calls_in_all
several-more es k e first old new lt is before after = push-more calls_in es k e first old new lt is before after

pub several-end : (es : List BExpr) (k : ℕ) (first made : Calls) → length es ≤ k → made ≡ first ++ calls_in_all (take k es) → made ≡ first ++ calls_in_all es
unfolding calls_in_all
several-end es k first made le is = push-end calls_in es k first made le is

pub ruleset several_steps = (several-start, several-more, several-end)

abbrev link_calls : ChainSign × BExpr → Calls
link_calls l = calls_in l.1

pub links-start : (old : Calls) → old ≡ old ++ calls_along []
unfolding calls_along
links-start old = sym (append-nil old)

pub links-more : (ls : List (ChainSign × BExpr)) (k : ℕ) (l : ChainSign × BExpr) (first old new : Calls) → k < length ls → l ≡ get_or ls k l → old ≡ first ++ calls_along (take k ls) → new ≡ old ++ calls_in l.1 → new ≡ first ++ calls_along (take (k + 1) ls)
unfolding calls_along
links-more ls k l first old new lt is before after = push-more link_calls ls k l first old new lt is before after

pub links-end : (ls : List (ChainSign × BExpr)) (k : ℕ) (first made : Calls) → length ls ≤ k → made ≡ first ++ calls_along (take k ls) → made ≡ first ++ calls_along ls
unfolding calls_along
links-end ls k first made le is = push-end link_calls ls k first made le is

pub ruleset link_steps = (links-start, links-more, links-end)

abbrev of_item : BItem → Calls
of_item b = item_calls b.expr

pub items-start : calls_of [] ≡ []
unfolding calls_of
items-start = refl

pub items-more : (bs : List BItem) (k : ℕ) (b : BItem) (old new : Calls) → k < length bs → b ≡ get_or bs k b → old ≡ calls_of (take k bs) → new ≡ old ++ item_calls b.expr → new ≡ calls_of (take (k + 1) bs)
unfolding calls_of
items-more bs k b old new lt is before after = push-more of_item bs k b [] old new lt is before after

pub ruleset item_steps = (items-start, items-more)

-- One expression.

here : (e x : BExpr) (cs old new : Calls) → e ≡ x → calls_in x ≡ cs → new ≡ old ++ cs → new ≡ old ++ calls_in e
here e x cs old new is calls made = made ∙ ap (λ (ds : Calls). old ++ ds) (sym (ap calls_in is ∙ calls))

none-here : (e x : BExpr) (old : Calls) → e ≡ x → calls_in x ≡ [] → old ≡ old ++ calls_in e
none-here e x old is calls = here e x [] old old is calls (sym (append-nil old))

pub push-Literal : (e : BExpr) (l : Lit) (old : Calls) → e ≡ V.Literal l → old ≡ old ++ calls_in e
push-Literal e l old is = none-here e (V.Literal l) old is (calls-Literal l)

pub push-Column : (e : BExpr) (n : List ℕ) (old : Calls) → e ≡ V.Column n → old ≡ old ++ calls_in e
push-Column e n old is = none-here e (V.Column n) old is (calls-Column n)

pub push-Step : (e : BExpr) (c : StepColumn) (old : Calls) → e ≡ V.Step c → old ≡ old ++ calls_in e
push-Step e c old is = none-here e (V.Step c) old is (calls-Step c)

pub push-Window : (e : BExpr) (f : Window) (args : List BExpr) (old : Calls) → e ≡ V.Window f args → old ≡ old ++ calls_in e
push-Window e f args old is = none-here e (V.Window f args) old is (calls-Window f args)

pub push-Call : (e : BExpr) (f : Func) (args : List BExpr) (old new : Calls) → e ≡ V.Call f args → new ≡ old ++ calls_in_all args → new ≡ old ++ calls_in e
push-Call e f args old new is made = here e (V.Call f args) (calls_in_all args) old new is (calls-Call f args) made

two : (cs ds old mid new : Calls) → mid ≡ old ++ cs → new ≡ mid ++ ds → new ≡ old ++ (cs ++ ds)
two cs ds old mid new front made = made ∙ (ap (λ (xs : Calls). xs ++ ds) front ∙ append_assoc old cs ds)

pub push-Chain : (e first : BExpr) (links : List (ChainSign × BExpr)) (old mid new : Calls) → e ≡ V.Chain first links → mid ≡ old ++ calls_in first → new ≡ mid ++ calls_along links → new ≡ old ++ calls_in e
push-Chain e first links old mid new is front made = here e (V.Chain first links) (calls_in first ++ calls_along links) old new is (calls-Chain first links) (two (calls_in first) (calls_along links) old mid new front made)

pub push-Path : (e whole : BExpr) (steps : List BExpr) (old mid new : Calls) → e ≡ V.Path whole steps → mid ≡ old ++ calls_in whole → new ≡ mid ++ calls_in_all steps → new ≡ old ++ calls_in e
push-Path e whole steps old mid new is front made = here e (V.Path whole steps) (calls_in whole ++ calls_in_all steps) old new is (calls-Path whole steps) (two (calls_in whole) (calls_in_all steps) old mid new front made)

pub push-Aggregate : (e : BExpr) (f g : Aggregate) (args given : List BExpr) (old new : Calls) → e ≡ V.Aggregate f args → g ≡ f → given ≡ args → new ≡ old ++ (g, given) ∷ [] → new ≡ old ++ calls_in e
push-Aggregate e f g args given old new is ef ea made = here e (V.Aggregate f args) ((f, args) ∷ []) old new is (calls-Aggregate f args) (made ∙ (ap (λ (h : Aggregate). old ++ (h, given) ∷ []) ef ∙ ap (λ (es : List BExpr). old ++ (f, es) ∷ []) ea))

pub ruleset push_steps = (push-Literal, push-Column, push-Step, push-Window, push-Call, push-Chain, push-Path, push-Aggregate)

-- Values behind those of calls.

pub first-others : (vs : List Value) → length vs < 1 → vs ≡ drop 1 vs
first-others [] l = refl
first-others (v ∷ vs) l = absurd (omega arith)

pub ruleset first_steps = (first-others)

along : (e x : BExpr) (cs : Calls) (vs r : List Value) → e ≡ x → calls_in x ≡ cs → r ≡ drop (length cs) vs → r ≡ drop (length (calls_in e)) vs
along e x cs vs r is calls made = made ∙ ap (λ (ds : Calls). drop (length ds) vs) (sym (ap calls_in is ∙ calls))

pub behind-Literal : (e : BExpr) (l : Lit) (vs : List Value) → e ≡ V.Literal l → vs ≡ drop (length (calls_in e)) vs
behind-Literal e l vs is = along e (V.Literal l) [] vs vs is (calls-Literal l) refl

pub behind-Column : (e : BExpr) (n : List ℕ) (vs : List Value) → e ≡ V.Column n → vs ≡ drop (length (calls_in e)) vs
behind-Column e n vs is = along e (V.Column n) [] vs vs is (calls-Column n) refl

pub behind-Step : (e : BExpr) (c : StepColumn) (vs : List Value) → e ≡ V.Step c → vs ≡ drop (length (calls_in e)) vs
behind-Step e c vs is = along e (V.Step c) [] vs vs is (calls-Step c) refl

pub behind-Window : (e : BExpr) (f : Window) (args : List BExpr) (vs : List Value) → e ≡ V.Window f args → vs ≡ drop (length (calls_in e)) vs
behind-Window e f args vs is = along e (V.Window f args) [] vs vs is (calls-Window f args) refl

pub behind-Call : (e : BExpr) (f : Func) (args : List BExpr) (vs r : List Value) → e ≡ V.Call f args → r ≡ drop (length (calls_in_all args)) vs → r ≡ drop (length (calls_in e)) vs
behind-Call e f args vs r is made = along e (V.Call f args) (calls_in_all args) vs r is (calls-Call f args) made

both : (cs ds : Calls) (vs mid r : List Value) → mid ≡ drop (length cs) vs → r ≡ drop (length ds) mid → r ≡ drop (length (cs ++ ds)) vs
both cs ds vs mid r front made =
    made
    ∙ (ap (drop (length ds)) front
    ∙ (drop-drop (length ds) (length cs) vs ∙ ap (λ n. drop n vs) (sym (length-append cs ds))))

pub behind-Chain : (e first : BExpr) (links : List (ChainSign × BExpr)) (vs mid r : List Value) → e ≡ V.Chain first links → mid ≡ drop (length (calls_in first)) vs → r ≡ drop (length (calls_along links)) mid → r ≡ drop (length (calls_in e)) vs
behind-Chain e first links vs mid r is front made =
    along e (V.Chain first links) (calls_in first ++ calls_along links) vs r is (calls-Chain first links) (both (calls_in first) (calls_along links) vs mid r front made)

pub behind-Path : (e whole : BExpr) (steps : List BExpr) (vs mid r : List Value) → e ≡ V.Path whole steps → mid ≡ drop (length (calls_in whole)) vs → r ≡ drop (length (calls_in_all steps)) mid → r ≡ drop (length (calls_in e)) vs
behind-Path e whole steps vs mid r is front made =
    along e (V.Path whole steps) (calls_in whole ++ calls_in_all steps) vs r is (calls-Path whole steps) (both (calls_in whole) (calls_in_all steps) vs mid r front made)

pub behind-Aggregate : (e : BExpr) (f : Aggregate) (args : List BExpr) (vs r : List Value) → e ≡ V.Aggregate f args → r ≡ drop 1 vs → r ≡ drop (length (calls_in e)) vs
behind-Aggregate e f args vs r is made = along e (V.Aggregate f args) ((f, args) ∷ []) vs r is (calls-Aggregate f args) made

pub ruleset behind_steps = (behind-Literal, behind-Column, behind-Step, behind-Window, behind-Call, behind-Chain, behind-Path, behind-Aggregate)

pub behind-none : (vs : List Value) → vs ≡ drop (length (calls_in_all [])) vs
unfolding calls_in_all
behind-none vs = refl

pub behind-turn : (es : List BExpr) (k : ℕ) (e : BExpr) (vs old new : List Value) → k < length es → e ≡ get_or es k e → old ≡ drop (length (calls_in_all (take k es))) vs → new ≡ drop (length (calls_in e)) old → new ≡ drop (length (calls_in_all (take (k + 1) es))) vs
unfolding calls_in_all
behind-turn es k e vs old new lt is before after = behind-more calls_in es k e vs old new lt is before after

pub ruleset behind_all_steps = (behind-none, behind-turn)

pub behind-no-links : (vs : List Value) → vs ≡ drop (length (calls_along [])) vs
unfolding calls_along
behind-no-links vs = refl

pub behind-link : (ls : List (ChainSign × BExpr)) (k : ℕ) (l : ChainSign × BExpr) (vs old new : List Value) → k < length ls → l ≡ get_or ls k l → old ≡ drop (length (calls_along (take k ls))) vs → new ≡ drop (length (calls_in l.1)) old → new ≡ drop (length (calls_along (take (k + 1) ls))) vs
unfolding calls_along
behind-link ls k l vs old new lt is before after = behind-more link_calls ls k l vs old new lt is before after

pub ruleset behind_link_steps = (behind-no-links, behind-link)
