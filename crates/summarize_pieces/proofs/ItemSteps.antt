-- Items over a group, one after another.
use Rattle.std.proofs.Common.{◌≡◌, ◌<◌, ◌≤◌, ◌+◌, ◌-◌, ◌==◌, ◌++◌, ℕ, zero, suc, true, List, [], ◌∷◌, drop, get_or, length, length-drop, map, take, refl, ap, ap₂, sym, ◌∙◌, subst, append_assoc, inl, inr, arith}
use Rattle.std.specs.Prelude.{None, Option, Some, slice_get, slice_index_or}
use Rattle.std.specs.List.{flat_map, list_all}
use Rattle.std.proofs.lemmas.Bool.{and_from, cases_Bool, cases_lt}
use Rattle.std.proofs.lemmas.Bool.Decides.{nat_tests}
use Rattle.std.proofs.lemmas.List.{append-nil, drop-drop, drop_all, drop_more, length-map, map-append, take_all, take_more}
use Rattle.kql_cells.specs.Table.{Grid}
use Rattle.kql_cells.specs.Seen.{seen}
use Rattle.kql_cells.specs.declared.cell.CellRef.{CellRef}
use Rattle.kql_cells.specs.declared.schema.Column.{Column}
use Rattle.kql_cells.specs.declared.value.Value.{Value}
use Rattle.kql_functions.specs.declared.aggregate.Aggregate.{Aggregate}
use Rattle.kql_functions.specs.declared.aggregate.Aggregate.TheVariants as aggregate
use Rattle.kql_scalar_fns.specs.Arguments.{AreWellFormed, argument}
use Rattle.kql_bound.specs.declared.expr.BExpr.{BExpr, out-BExpr, roll-BExpr, roll-out-BExpr}
use Rattle.kql_bound.specs.declared.expr.BExpr.TheOpen.{BExpr-F}
use Rattle.kql_bound.specs.declared.expr.BExpr.TheVariants as V
use Rattle.kql_bound.specs.declared.parts.BItem.{BItem}
use Rattle.kql_meaning.specs.declared.position.Position.TheVariants as position
use Rattle.kql_meaning.specs.Aggregates.{aggregated}
use Rattle.kql_meaning.specs.Expressions.{kind_of, val, values_in}
use Rattle.kql_meaning.specs.FittingExpressions.{aggregate_fits, aggregate_takes, best_of, call_or_expr_fits, call_or_expr_fits_step, checked_args, expr_fits, scope_of}
use Rattle.kql_meaning.specs.FittingOperators.{group_item_fits}
use Rattle.kql_meaning.specs.Items.{items_values}
use Rattle.kql_meaning.specs.Readings.{reading_at}
use Rattle.kql_meaning.specs.Results.{has_one_result, results, results_step}
use Rattle.kql_meaning.proofs.ExpressionFitLaws.{fits-Aggregate}
use Rattle.kql_meaning.proofs.ValueLaws.{val-Aggregate}
use Rattle.summarize_op.specs.Calls.{best_row, is_best}
use Rattle.summarize_op.specs.Grouped.{IsGrouped}
use Rattle.kql_meaning.specs.Values.{absent_as}
use Rattle.summarize_pieces.specs.Calls.{AreFurther, AreGiven, IsItem, call_columns, calls_by, calls_in, calls_of, first_columns, first_columns_step, further_args, further_columns, further_over, further_row, further_step, item_calls}
use Rattle.summarize_pieces.specs.Pieces.{GroupKept, kept_row, kept_rows}
use Rattle.summarize_pieces.proofs.CallLaws.{calls-Aggregate, flat-more}
use Rattle.summarize_pieces.proofs.ChosenLaws.{best-further, none-further}
use Rattle.summarize_pieces.proofs.PlanSteps.{call-arguments, item-fits}
use Rattle.summarize_pieces.proofs.ValueSteps.{behind-formed, given-parts}

-- An item that is neither a call of `take_any` nor one with further columns is an expression over groups.

same-call : (e : BExpr) (f : Aggregate) (args : List BExpr) → out-BExpr e ≡ BExpr-F.Aggregate f args → e ≡ V.Aggregate f args
same-call e f args o = sym (roll-out-BExpr e) ∙ (ap roll-BExpr o ∙ V.rolls-Aggregate f args)

one-alone : (args : List BExpr) → 0 < length args → drop 1 args ≡ [] → (length args == 1) ≡ true
one-alone [] some alone = absurd (omega (arith, some))
one-alone (a ∷ []) some alone = grind (arith, nat_tests)
one-alone (a ∷ b ∷ args) some alone = absurd cc

some-best : (args : List BExpr) (cs : List Column) → best_of args cs ≡ true → 0 < length args
unfolding best_of
some-best [] cs h = absurd cc
some-best (a ∷ args) cs h = omega arith

one-of-alone : (f : Aggregate) (args : List BExpr) (cs : List Column) → call_columns f args ≡ None → further_args (f, args) ≡ [] → aggregate_takes f args cs ≡ true → has_one_result f args ≡ true
unfolding call_columns further_args is_best aggregate_takes has_one_result
one-of-alone aggregate.TakeAny args cs other alone takes = absurd cc
one-of-alone aggregate.ArgMax args cs other alone takes = one-alone args (some-best args cs takes) alone
one-of-alone aggregate.ArgMin args cs other alone takes = one-alone args (some-best args cs takes) alone
one-of-alone _ args cs other alone takes = refl

call-takes : (cs : List Column) (f : Aggregate) (args : List BExpr) → aggregate_fits f (checked_args args) (scope_of cs) position.Group ≡ true → aggregate_takes f args cs ≡ true
call-takes cs f args h = (call-arguments cs f args (record { fits = h })).1

grouped-step : (cs : List Column) (e : BExpr) (y : BExpr-F BExpr) → out-BExpr e ≡ y → first_columns_step y ≡ None → further_step y ≡ [] → call_or_expr_fits_step y (expr_fits e (scope_of cs) position.Group) (scope_of cs) position.Group ≡ true → expr_fits e (scope_of cs) position.Group ≡ true
grouped-step cs e (BExpr-F.Aggregate f args) o other alone h =
    ap (λ (x : BExpr). expr_fits x (scope_of cs) position.Group) (same-call e f args o)
    ∙ (fits-Aggregate f args (scope_of cs) position.Group ∙ and_from (has_one_result f args) (aggregate_fits f (checked_args args) (scope_of cs) position.Group) (one-of-alone f args cs other alone (call-takes cs f args h)) h)
grouped-step cs e (BExpr-F.Literal l) o other alone h = h
grouped-step cs e (BExpr-F.Column n) o other alone h = h
grouped-step cs e (BExpr-F.Step c) o other alone h = h
grouped-step cs e (BExpr-F.Call f args) o other alone h = h
grouped-step cs e (BExpr-F.Chain first links) o other alone h = h
grouped-step cs e (BExpr-F.Path whole steps) o other alone h = h
grouped-step cs e (BExpr-F.Window f args) o other alone h = h

grouped : (cs : List Column) (e : BExpr) → first_columns e ≡ None → further_columns e ≡ [] → call_or_expr_fits e (scope_of cs) position.Group ≡ true → expr_fits e (scope_of cs) position.Group ≡ true
unfolding first_columns further_columns call_or_expr_fits
grouped cs e other alone h = grouped-step cs e (out-BExpr e) refl other alone h

pub item-grouped : (cs : List Column) (e : BExpr) → IsItem cs e → first_columns e ≡ None → further_columns e ≡ [] → IsGrouped cs e
item-grouped cs e h other alone = record { holds = grouped cs e other alone h.fits }

pub none-behind : (columns : List BExpr) → length columns ≤ 0 → columns ≡ []
none-behind [] le = refl
none-behind (c ∷ columns) le = absurd (omega (arith, le))

pub alone-grouped : (cs : List Column) (e : BExpr) (columns : List BExpr) → IsItem cs e → first_columns e ≡ None → columns ≡ further_columns e → length columns ≤ 0 → IsGrouped cs e
alone-grouped cs e columns h other is le = item-grouped cs e h other (sym is ∙ none-behind columns le)

pub item-at : (cs : List Column) (items : List BItem) (i : ℕ) (b : BItem) → list_all (group_item_fits cs) items ≡ true → i < length items → b ≡ get_or items i b → IsItem cs b.expr
item-at cs items i b fits lt is = record { fits = item-fits items cs i b fits lt is }

pub item-form : (n : ℕ) (vs rest : List Value) → AreWellFormed vs → rest ≡ drop n vs → AreWellFormed rest
item-form n vs rest h is = behind-formed n vs rest h is

pub ruleset item_steps = (item-at, item-form)

-- It gives one value.

drop-none : (args : List BExpr) (u : Grid) (i : ℕ) → (length args == 1) ≡ true → values_in (drop 1 args) u i [] ≡ []
unfolding values_in
drop-none [] u i h = refl
drop-none (a ∷ []) u i h = refl
drop-none (a ∷ b ∷ args) u i h = absurd (grind (arith, nat_tests))

any-value : (args : List BExpr) (u : Grid) → (length args == 1) ≡ true → values_in args u 0 [] ≡ val (V.Aggregate aggregate.TakeAny args) u 0 [] ∷ []
unfolding values_in aggregated reading_at val
any-value [] u h = absurd (grind (arith, nat_tests))
any-value (a ∷ []) u h = ap (λ (v : Value). v ∷ []) (sym (val-Aggregate aggregate.TakeAny (a ∷ []) u 0 []))
any-value (a ∷ b ∷ args) u h = absurd (grind (arith, nat_tests))

one-result : (f : Aggregate) (args : List BExpr) (u : Grid) → has_one_result f args ≡ true → results_step (BExpr-F.Aggregate f args) (val (V.Aggregate f args) u 0 []) u [] ≡ val (V.Aggregate f args) u 0 [] ∷ []
unfolding has_one_result
one-result aggregate.TakeAny args u h = any-value args u h
one-result aggregate.ArgMax args u h = ap (λ (vs : List Value). val (V.Aggregate aggregate.ArgMax args) u 0 [] ∷ vs) (drop-none args u _ h)
one-result aggregate.ArgMin args u h = ap (λ (vs : List Value). val (V.Aggregate aggregate.ArgMin args) u 0 [] ∷ vs) (drop-none args u _ h)
one-result _ args u h = refl

result-step : (cs : List Column) (e : BExpr) (y : BExpr-F BExpr) (u : Grid) → out-BExpr e ≡ y → first_columns_step y ≡ None → further_step y ≡ [] → call_or_expr_fits_step y (expr_fits e (scope_of cs) position.Group) (scope_of cs) position.Group ≡ true → results_step y (val e u 0 []) u [] ≡ val e u 0 [] ∷ []
result-step cs e (BExpr-F.Aggregate f args) u o other alone h =
    let is = same-call e f args o in
    ap (λ (x : BExpr). results_step (BExpr-F.Aggregate f args) (val x u 0 []) u []) is ∙ (one-result f args u (one-of-alone f args cs other alone (call-takes cs f args h)) ∙ ap (λ (x : BExpr). val x u 0 [] ∷ []) (sym is))
result-step cs e (BExpr-F.Literal l) u o other alone h = refl
result-step cs e (BExpr-F.Column n) u o other alone h = refl
result-step cs e (BExpr-F.Step c) u o other alone h = refl
result-step cs e (BExpr-F.Call f args) u o other alone h = refl
result-step cs e (BExpr-F.Chain first links) u o other alone h = refl
result-step cs e (BExpr-F.Path whole steps) u o other alone h = refl
result-step cs e (BExpr-F.Window f args) u o other alone h = refl

single-result : (cs : List Column) (e : BExpr) (u : Grid) → first_columns e ≡ None → further_columns e ≡ [] → call_or_expr_fits e (scope_of cs) position.Group ≡ true → results e u 0 [] ≡ val e u 0 [] ∷ []
unfolding first_columns further_columns call_or_expr_fits results
single-result cs e u other alone h = result-step cs e (out-BExpr e) u refl other alone h

pub push-one : (cs : List Column) (e : BExpr) (columns : List BExpr) (u : Grid) (old new : List Value) (v : Value) → IsItem cs e → first_columns e ≡ None → columns ≡ further_columns e → length columns ≤ 0 → v ≡ val e u 0 [] → new ≡ old ++ v ∷ [] → new ≡ old ++ results e u 0 []
push-one cs e columns u old new v h other is le value after =
    let alone : further_columns e ≡ [] = sym is ∙ none-behind columns le in
    after ∙ ap (λ (vs : List Value). old ++ vs) (ap (λ (w : Value). w ∷ []) value ∙ sym (single-result cs e u other alone h.fits))

-- A call with further columns gives its value, and behind it what they are at the row that is chosen.

best-step : (f : Aggregate) (args : List BExpr) (v : Value) (u : Grid) → is_best f ≡ true → results_step (BExpr-F.Aggregate f args) v u [] ≡ v ∷ values_in (drop 1 args) u (best_row f args u) []
unfolding is_best best_row
best-step aggregate.ArgMax args v u b = refl
best-step aggregate.ArgMin args v u b = refl
best-step _ args v u b = absurd cc

best-over : (f : Aggregate) (args : List BExpr) (u : Grid) → is_best f ≡ true → further_over (f, args) u ≡ values_in (drop 1 args) u (best_row f args u) []
unfolding further_over
best-over f args u b = ap (λ (es : List BExpr). values_in es u (best_row f args u) []) (best-further f args b)

pub record IsBestCall (e : BExpr) (columns : List BExpr) : Type 0 where
  pub f : Aggregate
  pub args : List BExpr
  pub call : out-BExpr e ≡ BExpr-F.Aggregate f args
  pub best : is_best f ≡ true
  pub further : columns ≡ further_args (f, args)

not-none : (columns : List BExpr) → 0 < length columns → columns ≡ [] → ⊥
not-none [] some e = omega (arith, some)
not-none (c ∷ columns) some e = cc

best-aggregate : (f : Aggregate) (args columns : List BExpr) → columns ≡ further_args (f, args) → 0 < length columns → is_best f ≡ true
best-aggregate f args columns is some = elim (cases_Bool (is_best f)) [
  | inl y ↦ y
  | inr n ↦ absurd (not-none columns some (is ∙ none-further f args n))
]

best-out : (e : BExpr) (y : BExpr-F BExpr) (columns : List BExpr) → out-BExpr e ≡ y → columns ≡ further_step y → 0 < length columns → IsBestCall e columns
best-out e (BExpr-F.Aggregate f args) columns o is some = record { f = f; args = args; call = o; best = best-aggregate f args columns is some; further = is }
best-out e (BExpr-F.Literal l) columns o is some = absurd (not-none columns some is)
best-out e (BExpr-F.Column n) columns o is some = absurd (not-none columns some is)
best-out e (BExpr-F.Step c) columns o is some = absurd (not-none columns some is)
best-out e (BExpr-F.Call f args) columns o is some = absurd (not-none columns some is)
best-out e (BExpr-F.Chain first links) columns o is some = absurd (not-none columns some is)
best-out e (BExpr-F.Path whole steps) columns o is some = absurd (not-none columns some is)
best-out e (BExpr-F.Window f args) columns o is some = absurd (not-none columns some is)

best-call : (e : BExpr) (columns : List BExpr) → columns ≡ further_columns e → 0 < length columns → IsBestCall e columns
unfolding further_columns
best-call e columns is some = best-out e (out-BExpr e) columns refl is some

alone-calls : (e : BExpr) (f : Aggregate) (args : List BExpr) → first_columns e ≡ None → e ≡ V.Aggregate f args → item_calls e ≡ (f, args) ∷ []
unfolding item_calls calls_by
alone-calls e f args other is = ap (λ (o : Option (List BExpr)). calls_by o e) other ∙ (ap calls_in is ∙ calls-Aggregate f args)

first-given : (f : Aggregate) (args : List BExpr) (u : Grid) (vs : List Value) → AreGiven ((f, args) ∷ []) u vs → argument vs 0 ≡ val (V.Aggregate f args) u 0 []
unfolding AreGiven
first-given f args u vs h = h.0

first-further : (cs : List Column) (f : Aggregate) (args : List BExpr) (u : Grid) (rows : List (List Value)) → AreFurther cs ((f, args) ∷ []) u rows → further_row cs (further_args (f, args)) (slice_index_or rows 0 []) ≡ further_over (f, args) u
unfolding AreFurther
first-further cs f args u rows h = h.0

best-results : (e : BExpr) (f : Aggregate) (args : List BExpr) (u : Grid) → out-BExpr e ≡ BExpr-F.Aggregate f args → is_best f ≡ true → results e u 0 [] ≡ val (V.Aggregate f args) u 0 [] ∷ further_over (f, args) u
unfolding results
best-results e f args u o best =
    ap₂ (λ (y : BExpr-F BExpr) (x : BExpr). results_step y (val x u 0 []) u []) o (same-call e f args o)
    ∙ (best-step f args (val (V.Aggregate f args) u 0 []) u best
    ∙ ap (λ (vs : List Value). val (V.Aggregate f args) u 0 [] ∷ vs) (sym (best-over f args u best)))

pub push-best : (cs : List Column) (e : BExpr) (columns : List BExpr) (u : Grid) (rows : List (List Value)) (vs cells old mid new : List Value) (v : Value) → first_columns e ≡ None → columns ≡ further_columns e → 0 < length columns → AreGiven (item_calls e) u vs → AreFurther cs (item_calls e) u rows → cells ≡ slice_index_or rows 0 [] → v ≡ argument vs 0 → mid ≡ old ++ v ∷ [] → new ≡ mid ++ further_row cs columns cells → new ≡ old ++ results e u 0 []
push-best cs e columns u rows vs cells old mid new v other is some given further same value one after =
    let b = best-call e columns is some in
    let f = b.f in
    let args = b.args in
    let calls : item_calls e ≡ (f, args) ∷ [] = alone-calls e f args other (same-call e f args b.call) in
    let own : v ≡ val (V.Aggregate f args) u 0 [] = value ∙ first-given f args u vs (subst (λ (ds : List (Aggregate × List BExpr)). AreGiven ds u vs) calls given) in
    let row : further_row cs columns cells ≡ further_over (f, args) u = ap₂ (λ (es : List BExpr) (ws : List Value). further_row cs es ws) b.further same ∙ first-further cs f args u rows (subst (λ (ds : List (Aggregate × List BExpr)). AreFurther cs ds u rows) calls further) in
    after
    ∙ (ap₂ (λ (xs ys : List Value). xs ++ ys) (one ∙ ap (λ (w : Value). old ++ w ∷ []) own) row
    ∙ (append_assoc old (val (V.Aggregate f args) u 0 [] ∷ []) (further_over (f, args) u)
    ∙ ap (λ (xs : List Value). old ++ xs) (sym (best-results e f args u b.call b.best))))

pub ruleset value_steps = (alone-grouped)

-- What further columns give.

pub absent-columns : (cs : List Column) (es : List BExpr) (cells old new : List Value) → cells ≡ [] → new ≡ old ++ map (λ (e : BExpr). absent_as (kind_of e cs)) es → new ≡ old ++ further_row cs es cells
unfolding further_row
absent-columns cs es cells old new none made = made ∙ ap (λ (vs : List Value). old ++ further_row cs es vs) (sym none)

kept-cells : (cs : List Column) (es : List BExpr) (vs : List Value) → 0 < length vs → further_row cs es vs ≡ vs
unfolding further_row
kept-cells cs es [] some = absurd (omega (arith, some))
kept-cells cs es (v ∷ vs) some = refl

pub kept-columns : (cs : List Column) (es : List BExpr) (cells old new : List Value) → 0 < length cells → new ≡ old ++ cells → new ≡ old ++ further_row cs es cells
kept-columns cs es cells old new some made = made ∙ ap (λ (vs : List Value). old ++ vs) (sym (kept-cells cs es cells some))

no-cells : (cells : List CellRef) → length cells ≤ 0 → map seen cells ≡ []
no-cells [] le = refl
no-cells (c ∷ cells) le = absurd (omega (arith, le))

some-cells : (cells : List CellRef) → 0 < length cells → 0 < length (map seen cells)
some-cells [] lt = absurd (omega (arith, lt))
some-cells (c ∷ cells) lt = omega arith

pub absent-further : (cs : List Column) (es : List BExpr) (cells : List CellRef) (old new : List Value) → length cells ≤ 0 → new ≡ old ++ map (λ (e : BExpr). absent_as (kind_of e cs)) es → new ≡ old ++ further_row cs es (map seen cells)
absent-further cs es cells old new none made = absent-columns cs es (map seen cells) old new (no-cells cells none) made

pub kept-further : (cs : List Column) (es : List BExpr) (cells : List CellRef) (old new : List Value) → 0 < length cells → new ≡ old ++ map seen cells → new ≡ old ++ further_row cs es (map seen cells)
kept-further cs es cells old new some made = kept-columns cs es (map seen cells) old new (some-cells cells some) made

pub ruleset further_steps = (absent-further, kept-further)

-- One value after another.

pub map-start : {X : Type 0} (f : X → Value) (xs : List X) (old : List Value) → old ≡ old ++ map f (take 0 xs)
map-start f xs old = sym (append-nil old)

pub map-more : {X : Type 0} (f : X → Value) (xs : List X) (i : ℕ) (d : X) (v : Value) (first old new : List Value) → i < length xs → old ≡ first ++ map f (take i xs) → v ≡ f (get_or xs i d) → new ≡ old ++ v ∷ [] → new ≡ first ++ map f (take (i + 1) xs)
map-more f xs i d v first old new lt before value after =
    after
    ∙ (ap₂ (λ (vs : List Value) (w : Value). vs ++ w ∷ []) before value
    ∙ (append_assoc first (map f (take i xs)) (f (get_or xs i d) ∷ [])
    ∙ ap (λ (vs : List Value). first ++ vs) (sym (ap (map f) (take_more xs i d lt) ∙ map-append f (take i xs) (get_or xs i d ∷ [])))))

pub map-end : {X : Type 0} (f : X → Value) (xs : List X) (i : ℕ) (first made : List Value) → length xs ≤ i → made ≡ first ++ map f (take i xs) → made ≡ first ++ map f xs
map-end f xs i first made le is = is ∙ ap (λ ys. first ++ map f ys) (take_all i xs le)

-- The cells that are kept for a call of a group.

pub state-there : (groups : List GroupKept) (k : ℕ) (s : GroupKept) → k < length groups → s ≡ get_or groups k s → kept_row (slice_get groups k) ≡ s.further
unfolding kept_row
state-there [] k s lt is = absurd (omega (arith, lt))
state-there (x ∷ groups) zero s lt is = ap (λ (y : GroupKept). y.further) (sym is)
state-there (x ∷ groups) (suc k) s lt is = state-there groups k s (omega (arith, lt)) is

pub state-gone : (groups : List GroupKept) (k : ℕ) → length groups ≤ k → kept_row (slice_get groups k) ≡ []
unfolding kept_row
state-gone [] k le = refl
state-gone (x ∷ groups) zero le = absurd (omega (arith, le))
state-gone (x ∷ groups) (suc k) le = state-gone groups k (omega (arith, le))

pub ruleset group_steps = (state-there, state-gone)

pub groups-there : (states : List (List GroupKept)) (j k : ℕ) (groups : List GroupKept) → j < length states → groups ≡ get_or states j groups → slice_index_or (kept_rows states k) j [] ≡ kept_row (slice_get groups k)
unfolding kept_rows
groups-there [] j k groups lt is = absurd (omega (arith, lt))
groups-there (x ∷ states) zero k groups lt is = ap (λ (xs : List GroupKept). kept_row (slice_get xs k)) (sym is)
groups-there (x ∷ states) (suc j) k groups lt is = groups-there states j k groups (omega (arith, lt)) is

pub groups-gone : (states : List (List GroupKept)) (j k : ℕ) → length states ≤ j → slice_index_or (kept_rows states k) j [] ≡ []
unfolding kept_rows
groups-gone [] j k le = refl
groups-gone (x ∷ states) zero k le = absurd (omega (arith, le))
groups-gone (x ∷ states) (suc j) k le = groups-gone states j k (omega (arith, le))

pub ruleset call_steps = (groups-there, groups-gone)

-- A call of `take_any` gives what its columns are.

firsts-call : (f : Aggregate) (args columns : List BExpr) (v : Value) (u : Grid) → call_columns f args ≡ Some columns → results_step (BExpr-F.Aggregate f args) v u [] ≡ values_in columns u 0 []
unfolding call_columns
firsts-call aggregate.TakeAny args columns v u is = let same : args ≡ columns = cc in ap (λ (es : List BExpr). values_in es u 0 []) same
firsts-call _ args columns v u is = absurd cc

firsts-step : (e : BExpr) (y : BExpr-F BExpr) (columns : List BExpr) (u : Grid) → first_columns_step y ≡ Some columns → results_step y (val e u 0 []) u [] ≡ values_in columns u 0 []
firsts-step e (BExpr-F.Aggregate f args) columns u is = firsts-call f args columns (val e u 0 []) u is
firsts-step e (BExpr-F.Literal l) columns u is = absurd cc
firsts-step e (BExpr-F.Column n) columns u is = absurd cc
firsts-step e (BExpr-F.Step c) columns u is = absurd cc
firsts-step e (BExpr-F.Call f args) columns u is = absurd cc
firsts-step e (BExpr-F.Chain first links) columns u is = absurd cc
firsts-step e (BExpr-F.Path whole steps) columns u is = absurd cc
firsts-step e (BExpr-F.Window f args) columns u is = absurd cc

first-results : (e : BExpr) (columns : List BExpr) (u : Grid) → first_columns e ≡ Some columns → results e u 0 [] ≡ values_in columns u 0 []
unfolding first_columns results
first-results e columns u is = firsts-step e (out-BExpr e) columns u is

pub push-firsts : (e : BExpr) (columns : List BExpr) (u : Grid) (old new : List Value) → first_columns e ≡ Some columns → new ≡ old ++ values_in columns u 0 [] → new ≡ old ++ results e u 0 []
push-firsts e columns u old new is made = made ∙ ap (λ (vs : List Value). old ++ vs) (sym (first-results e columns u is))

-- One item after another.

head-given : (b : BItem) (bs : List BItem) (u : Grid) (vs : List Value) → AreGiven (calls_of (b ∷ bs)) u vs → AreGiven (item_calls b.expr) u vs × AreGiven (calls_of bs) u (drop (length (item_calls b.expr)) vs)
unfolding calls_of
head-given b bs u vs h = given-parts (item_calls b.expr) (calls_of bs) u vs h

pub given-item : (items : List BItem) (i : ℕ) (b : BItem) (u : Grid) (vs rest : List Value) → i < length items → b ≡ get_or items i b → AreGiven (calls_of (drop i items)) u vs → rest ≡ drop (length (item_calls b.expr)) vs → AreGiven (item_calls b.expr) u vs × AreGiven (calls_of (drop (i + 1) items)) u rest
given-item items i b u vs rest lt is h behind =
    let q = head-given b (drop (i + 1) items) u vs (subst (λ (bs : List BItem). AreGiven (calls_of bs) u vs) (drop_more items i b lt ∙ ap (λ (x : BItem). x ∷ drop (i + 1) items) (sym is)) h) in
    (q.0, subst (AreGiven (calls_of (drop (i + 1) items)) u) (sym behind) q.1)

further-parts : (cols : List Column) (cs ds : List (Aggregate × List BExpr)) (u : Grid) (rows : List (List Value)) → AreFurther cols (cs ++ ds) u rows → AreFurther cols cs u rows × AreFurther cols ds u (drop (length cs) rows)
unfolding AreFurther
further-parts cols [] ds u rows h = (tt, h)
further-parts cols (c ∷ cs) ds u rows h =
    let b = further-parts cols cs ds u (drop 1 rows) h.1 in
    let one : 1 + length cs ≡ suc (length cs) = omega arith in
    ((h.0, b.0), subst (AreFurther cols ds u) (drop-drop (length cs) 1 rows ∙ ap (λ n. drop n rows) one) b.1)

head-further : (cols : List Column) (b : BItem) (bs : List BItem) (u : Grid) (rows : List (List Value)) → AreFurther cols (calls_of (b ∷ bs)) u rows → AreFurther cols (item_calls b.expr) u rows × AreFurther cols (calls_of bs) u (drop (length (item_calls b.expr)) rows)
unfolding calls_of
head-further cols b bs u rows h = further-parts cols (item_calls b.expr) (calls_of bs) u rows h

-- How many rows stand before those of the calls that are left: as many as values that are used.
used-far : {X : Type 0} (n a v r : ℕ) (rows : List X) → r ≡ v - n → v ≤ a → length rows ≡ a → drop ((a - v) + n) rows ≡ drop (a - r) rows
used-far n a v r rows left low size = elim (cases_lt n v) [
  | inl lt ↦ let same : (a - v) + n ≡ a - r = omega (arith, left, low, lt) in ap (λ m. drop m rows) same
  | inr le ↦
      let none : r ≡ 0 = omega (arith, left, le) in
      drop_all ((a - v) + n) rows (omega (arith, size, low, le)) ∙ sym (drop_all (a - r) rows (omega (arith, size, none)))
]

used-more : {X : Type 0} (n : ℕ) (all vs rest : List Value) (rows : List X) → rest ≡ drop n vs → length vs ≤ length all → length rows ≡ length all → drop n (drop (length all - length vs) rows) ≡ drop (length all - length rest) rows
used-more n all vs rest rows is low size =
    let left : length rest ≡ length vs - n = ap (λ (ws : List Value). length ws) is ∙ length-drop n vs in
    drop-drop n (length all - length vs) rows ∙ used-far n (length all) (length vs) (length rest) rows left low size

pub further-item : (cols : List Column) (items : List BItem) (i : ℕ) (b : BItem) (u : Grid) (all vs rest : List Value) (rows : List (List Value)) → i < length items → b ≡ get_or items i b → length vs ≤ length all → length rows ≡ length all → AreFurther cols (calls_of (drop i items)) u (drop (length all - length vs) rows) → rest ≡ drop (length (item_calls b.expr)) vs → AreFurther cols (item_calls b.expr) u (drop (length all - length vs) rows) × AreFurther cols (calls_of (drop (i + 1) items)) u (drop (length all - length rest) rows)
further-item cols items i b u all vs rest rows lt is low size h behind =
    let at = drop (length all - length vs) rows in
    let q = head-further cols b (drop (i + 1) items) u at (subst (λ (bs : List BItem). AreFurther cols (calls_of bs) u at) (drop_more items i b lt ∙ ap (λ (x : BItem). x ∷ drop (i + 1) items) (sym is)) h) in
    (q.0, subst (AreFurther cols (calls_of (drop (i + 1) items)) u) (used-more (length (item_calls b.expr)) all vs rest rows behind low size) q.1)

-- At first all are left.
pub no-values-used : (cols : List Column) (items : List BItem) (u : Grid) (all : List Value) (rows : List (List Value)) → AreFurther cols (calls_of items) u rows → AreFurther cols (calls_of items) u (drop (length all - length all) rows)
no-values-used cols items u all rows h = let none : length all - length all ≡ 0 = omega arith in subst (λ n. AreFurther cols (calls_of items) u (drop n rows)) (sym none) h

pub rows-many : (states : List (List GroupKept)) (k : ℕ) → length (kept_rows states k) ≡ length states
unfolding kept_rows
rows-many states k = length-map states _

pub rest-low : (n : ℕ) (all vs rest : List Value) → rest ≡ drop n vs → length vs ≤ length all → length rest ≤ length all
rest-low n all vs rest is low =
    let left : length rest ≡ length vs - n = ap (λ (ws : List Value). length ws) is ∙ length-drop n vs in
    omega (arith, left, low)

first-behind : {X : Type 0} (xs : List X) (n : ℕ) (d : X) → slice_index_or xs n d ≡ slice_index_or (drop n xs) 0 d
first-behind [] zero d = refl
first-behind [] (suc n) d = refl
first-behind (x ∷ xs) zero d = refl
first-behind (x ∷ xs) (suc n) d = first-behind xs n d

pub first-row : (rows : List (List Value)) (n m : ℕ) (cells : List Value) → n ≡ m → cells ≡ slice_index_or rows n [] → cells ≡ slice_index_or (drop m rows) 0 []
first-row rows n m cells same is = is ∙ (ap (λ i. slice_index_or rows i []) same ∙ first-behind rows m [])

pub line-start : (items : List BItem) (u : Grid) (key : List Value) → key ≡ key ++ items_values (take 0 items) u 0
unfolding items_values
line-start items u key = sym (append-nil key)

pub line-more : (items : List BItem) (i : ℕ) (b : BItem) (u : Grid) (key old new : List Value) → i < length items → b ≡ get_or items i b → old ≡ key ++ items_values (take i items) u 0 → new ≡ old ++ results b.expr u 0 [] → new ≡ key ++ items_values (take (i + 1) items) u 0
unfolding items_values
line-more items i b u key old new lt is before after =
    let f = λ (b : BItem). results b.expr u 0 [] in
    after
    ∙ (ap (λ (xs : List Value). xs ++ results b.expr u 0 []) before
    ∙ (append_assoc key (flat_map f (take i items)) (results b.expr u 0 []) ∙ ap (λ (xs : List Value). key ++ xs) (sym (flat-more f items i b lt is))))

pub line-end : (items : List BItem) (i : ℕ) (u : Grid) (key made : List Value) → length items ≤ i → made ≡ key ++ items_values (take i items) u 0 → made ≡ key ++ items_values items u 0
line-end items i u key made le is = is ∙ ap (λ (bs : List BItem). key ++ items_values bs u 0) (take_all i items le)
