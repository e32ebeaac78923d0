-- Items that are calls of `take_any`: one call for each column, and its value.
use Rattle.std.proofs.Common.{◌≡◌, ◌<◌, ◌≤◌, ◌+◌, ◌-◌, ℕ, List, [], ◌∷◌, ◌++◌, length, get_or, map, take, drop, ap, ap₂, sym, ◌∙◌, subst, append_assoc}
use Rattle.std.specs.Prelude.{Option, None, Some}
use Rattle.std.proofs.lemmas.List.{append-nil, drop_all, drop_more, length-map, map-append, take_all, take_more, take_rest}
use Rattle.kql_cells.specs.Table.{Grid}
use Rattle.kql_cells.specs.declared.value.Value.{Value}
use Rattle.kql_functions.specs.declared.aggregate.Aggregate.{Aggregate}
use Rattle.kql_functions.specs.declared.aggregate.Aggregate.TheVariants as aggregate
use Rattle.kql_scalar_fns.specs.Arguments.{AreWellFormed, argument}
use Rattle.kql_bound.specs.declared.expr.BExpr.{BExpr}
use Rattle.kql_bound.specs.declared.expr.BExpr.TheVariants as V
use Rattle.kql_meaning.specs.Expressions.{val, values_in}
use Rattle.summarize_pieces.specs.Calls.{AreGiven, calls_by, calls_in, first_columns, firsts, item_calls}
use Rattle.summarize_pieces.proofs.GivenLaws.{first-value}
use Rattle.summarize_pieces.proofs.ValueSteps.{behind-formed}

abbrev Calls : Type 0
Calls = List (Aggregate × List BExpr)

abbrev first_call : BExpr → Aggregate × List BExpr
first_call e = (aggregate.TakeAny, e ∷ [])

-- The calls of an item, behind others.

pub item-firsts : (e : BExpr) (columns : List BExpr) (old new : Calls) → first_columns e ≡ Some columns → new ≡ old ++ firsts columns → new ≡ old ++ item_calls e
unfolding item_calls calls_by
item-firsts e columns old new is made = made ∙ ap (λ (o : Option (List BExpr)). old ++ calls_by o e) (sym is)

pub item-others : (e : BExpr) (old new : Calls) → first_columns e ≡ None → new ≡ old ++ calls_in e → new ≡ old ++ item_calls e
unfolding item_calls calls_by
item-others e old new is made = made ∙ ap (λ (o : Option (List BExpr)). old ++ calls_by o e) (sym is)

pub ruleset call_steps = (item-firsts, item-others)

pub firsts-start : (old : Calls) → old ≡ old ++ firsts []
unfolding firsts
firsts-start old = sym (append-nil old)

pub firsts-more : (es : List BExpr) (k : ℕ) (e : BExpr) (one : List BExpr) (first old new : Calls) → k < length es → e ≡ get_or es k e → one ≡ e ∷ [] → old ≡ first ++ firsts (take k es) → new ≡ old ++ (aggregate.TakeAny, one) ∷ [] → new ≡ first ++ firsts (take (k + 1) es)
unfolding firsts
firsts-more es k e one first old new lt is only before after =
    after
    ∙ (ap₂ (λ (cs : Calls) (xs : List BExpr). cs ++ (aggregate.TakeAny, xs) ∷ []) before (only ∙ ap (λ (x : BExpr). x ∷ []) is)
    ∙ (append_assoc first (map first_call (take k es)) (first_call (get_or es k e) ∷ [])
    ∙ ap (λ (cs : Calls). first ++ cs) (sym (ap (map first_call) (take_more es k e lt) ∙ map-append first_call (take k es) (get_or es k e ∷ [])))))

pub firsts-end : (es : List BExpr) (k : ℕ) (first made : Calls) → length es ≤ k → made ≡ first ++ firsts (take k es) → made ≡ first ++ firsts es
firsts-end es k first made le is = is ∙ ap (λ (xs : List BExpr). first ++ firsts xs) (take_all k es le)

pub ruleset push_steps = (firsts-start, firsts-end)

-- The values behind those of an item.

pub behind-firsts : (e : BExpr) (columns : List BExpr) (n : ℕ) (vs r : List Value) → first_columns e ≡ Some columns → n ≡ length columns → r ≡ drop n vs → r ≡ drop (length (item_calls e)) vs
unfolding item_calls calls_by firsts
behind-firsts e columns n vs r is size made =
    made ∙ ap (λ m. drop m vs) (size ∙ (sym (length-map columns first_call) ∙ ap (λ (o : Option (List BExpr)). length (calls_by o e)) (sym is)))

pub behind-others : (e : BExpr) (vs r : List Value) → first_columns e ≡ None → r ≡ drop (length (calls_in e)) vs → r ≡ drop (length (item_calls e)) vs
unfolding item_calls calls_by
behind-others e vs r is made = made ∙ ap (λ (o : Option (List BExpr)). drop (length (calls_by o e)) vs) (sym is)

pub ruleset behind_steps = (behind-firsts, behind-others)

pub rest-some : (vs r : List Value) (n : ℕ) → r ≡ take (length vs - n) (drop n vs) → r ≡ drop n vs
rest-some vs r n is = is ∙ take_rest vs n

pub rest-none : (vs : List Value) (n : ℕ) → length vs ≤ n → [] ≡ drop n vs
rest-none vs n le = sym (drop_all n vs le)

pub ruleset rest_steps = (rest-some, rest-none)

-- What the calls of an item give.

pub given-firsts : (e : BExpr) (columns : List BExpr) (u : Grid) (vs : List Value) → first_columns e ≡ Some columns → AreGiven (item_calls e) u vs → AreGiven (firsts columns) u vs
unfolding item_calls calls_by
given-firsts e columns u vs is h = subst (λ (o : Option (List BExpr)). AreGiven (calls_by o e) u vs) is h

pub given-others : (e : BExpr) (u : Grid) (vs : List Value) → first_columns e ≡ None → AreGiven (item_calls e) u vs → AreGiven (calls_in e) u vs
unfolding item_calls calls_by
given-others e u vs is h = subst (λ (o : Option (List BExpr)). AreGiven (calls_by o e) u vs) is h

-- The columns, one after another.

head-given : (e : BExpr) (es : List BExpr) (u : Grid) (vs : List Value) → AreGiven (firsts (e ∷ es)) u vs → (argument vs 0 ≡ val e u 0 []) × AreGiven (firsts es) u (drop 1 vs)
unfolding firsts AreGiven
head-given e es u vs h = (h.0 ∙ first-value e [] u, h.1)

abbrev pub column_at : List BExpr → ℕ → BExpr
column_at es k = get_or es k (V.Column [])

pub given-next : (es : List BExpr) (k : ℕ) (u : Grid) (vs rest : List Value) → k < length es → AreGiven (firsts (drop k es)) u vs → rest ≡ drop 1 vs → (argument vs 0 ≡ val (column_at es k) u 0 []) × AreGiven (firsts (drop (k + 1) es)) u rest
given-next es k u vs rest lt h behind =
    let q = head-given (column_at es k) (drop (k + 1) es) u vs (subst (λ (xs : List BExpr). AreGiven (firsts xs) u vs) (drop_more es k (V.Column []) lt) h) in
    (q.0, subst (AreGiven (firsts (drop (k + 1) es)) u) (sym behind) q.1)

pub columns-start : (es : List BExpr) (u : Grid) (line : List Value) → line ≡ line ++ values_in (take 0 es) u 0 []
unfolding values_in
columns-start es u line = sym (append-nil line)

pub columns-more : (es : List BExpr) (k : ℕ) (u : Grid) (line vs old new : List Value) (v : Value) → k < length es → old ≡ line ++ values_in (take k es) u 0 [] → argument vs 0 ≡ val (column_at es k) u 0 [] → v ≡ argument vs 0 → new ≡ old ++ v ∷ [] → new ≡ line ++ values_in (take (k + 1) es) u 0 []
unfolding values_in
columns-more es k u line vs old new v lt before given value after =
    let f = λ (e : BExpr). val e u 0 [] in
    after
    ∙ (ap₂ (λ (xs : List Value) (x : Value). xs ++ x ∷ []) before (value ∙ given)
    ∙ (append_assoc line (map f (take k es)) (f (column_at es k) ∷ [])
    ∙ ap (λ (xs : List Value). line ++ xs) (sym (ap (map f) (take_more es k (V.Column []) lt) ∙ map-append f (take k es) (column_at es k ∷ [])))))

pub columns-end : (es : List BExpr) (k : ℕ) (u : Grid) (line made : List Value) → length es ≤ k → made ≡ line ++ values_in (take k es) u 0 [] → made ≡ line ++ values_in es u 0 []
columns-end es k u line made le is = is ∙ ap (λ (xs : List BExpr). line ++ values_in xs u 0 []) (take_all k es le)

pub behind-one : (vs rest : List Value) → AreWellFormed vs → rest ≡ drop 1 vs → AreWellFormed rest
behind-one vs rest h is = behind-formed 1 vs rest h is

pub ruleset column_steps = (behind-one)
