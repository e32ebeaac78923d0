-- The result columns of calls.
use Rattle.std.proofs.Common.{◌≡◌, ◌<◌, ◌≤◌, ℕ, true, false, List, [], ◌∷◌, get_or, length, take, drop, refl, ap, ap₂, sym, ◌∙◌, subst, arith}
use Rattle.std.specs.Prelude.{All, Option, slice_get, slice_index_or}
use Rattle.std.specs.List.{list_all, range_with_len}
use Rattle.std.proofs.lemmas.Bool.{and_parts}
use Rattle.std.proofs.lemmas.List.FromFn.{get_or-map-range_with_len, length-map-range_with_len}
use Rattle.kql_cells.specs.Table.{Grid}
use Rattle.kql_cells.specs.declared.schema.Column.{Column}
use Rattle.kql_cells.specs.declared.value.Value.{Value}
use Rattle.kql_values.specs.Moves.{IsWithin}
use Rattle.kql_keys.specs.Places.{places_of}
use Rattle.kql_functions.specs.Kinds.{has_order}
use Rattle.kql_functions.specs.declared.aggregate.Aggregate.{Aggregate}
use Rattle.kql_functions.specs.declared.aggregate.Aggregate.TheVariants as aggregate
use Rattle.kql_bound.specs.declared.expr.BExpr.{BExpr, out-BExpr, out-roll-BExpr}
use Rattle.kql_bound.specs.declared.expr.BExpr.TheOpen.{BExpr-F}
use Rattle.kql_bound.specs.declared.expr.BExpr.TheVariants as V
use Rattle.kql_scalar_fns.specs.Arguments.{AreWellFormed}
use Rattle.kql_meaning.specs.Aggregates.{aggregated}
use Rattle.kql_meaning.specs.Expressions.{kind_of, val, values_in}
use Rattle.kql_meaning.specs.FittingExpressions.{aggregate_takes, best_of, first_row_of, has_kind, is_plain_column}
use Rattle.kql_meaning.specs.Readings.{reading_at}
use Rattle.kql_meaning.specs.Results.{results, results_step}
use Rattle.kql_meaning.specs.RowByRow.{is_plain}
use Rattle.kql_meaning.proofs.JoinLaws.{map-map}
use Rattle.kql_meaning.proofs.ValueLaws.{val-Aggregate}
use Rattle.kql_fit_laws.specs.LawsOfRows.{IsTable}
use Rattle.agg_folds.specs.Calls.{call_of, needs}
use Rattle.agg_folds.specs.Folds.{chosen_row}
use Rattle.agg_folds.specs.Laws.{argument_rows as fold_rows}
use Rattle.agg_folds.specs.declared.call.FoldCall.{FoldCall}
use Rattle.agg_folds.proofs.FoldLaws.{chosen-is-greatest, chosen-is-least}
use Rattle.summarize_op.specs.Calls.{IsCall, best_row, best_rows, is_best, is_first}
use Rattle.summarize_op.specs.Columns.{AreColumns}
use Rattle.summarize_op.specs.Grouped.{AreNumbers, over}
use Rattle.summarize_op.specs.Groups.{group_at, zeros}
use Rattle.summarize_op.specs.Passes.{argument_columns, folded_over, group_args}
use Rattle.summarize_op.specs.Picks.{all_picked, at_row, chosen_over, picked, picked_rows}
use Rattle.summarize_op.proofs.ArgumentSteps.{args-plain, arguments-formed, arguments-long, call-takes, first-arguments, first-plain}
use Rattle.summarize_op.proofs.CallSteps.{call-formed, columns-long, folded-is, group-columns, rows-of-group}
use Rattle.summarize_op.proofs.ColumnFacts.{columns-beside, columns-same, map-range-same, one-column}
use Rattle.summarize_op.proofs.PickSteps.{picked-columns, picked-within, at-picked}

rolled : (f : Aggregate) (args : List BExpr) → out-BExpr (V.Aggregate f args) ≡ BExpr-F.Aggregate f args
rolled f args = ap out-BExpr (sym (V.rolls-Aggregate f args)) ∙ out-roll-BExpr (BExpr-F.Aggregate f args)

opened : (f : Aggregate) (args : List BExpr) (u : Grid) → results (V.Aggregate f args) u 0 [] ≡ results_step (BExpr-F.Aggregate f args) (val (V.Aggregate f args) u 0 []) u []
unfolding results
opened f args u = ap (λ (y : BExpr-F BExpr). results_step y (val (V.Aggregate f args) u 0 []) u []) (rolled f args)

-- One result.

one-step : (f : Aggregate) (args : List BExpr) (v : Value) (u : Grid) → is_best f ≡ false → is_first f ≡ false → results_step (BExpr-F.Aggregate f args) v u [] ≡ v ∷ []
unfolding is_best is_first
one-step aggregate.ArgMax args v u b h = absurd cc
one-step aggregate.ArgMin args v u b h = absurd cc
one-step aggregate.TakeAny args v u b h = absurd cc
one-step _ args v u b h = refl

pub call-one : (f : Aggregate) (args : List BExpr) (t : Grid) (ns : List ℕ) (count : ℕ) (v : List Value) (vs rest : List (List Value)) → is_best f ≡ false → is_first f ≡ false → v ≡ over (V.Aggregate f args) t ns count → rest ≡ [] → vs ≡ v ∷ rest → AreColumns count (λ g. results (V.Aggregate f args) (group_at t ns g) 0 []) vs
unfolding over
call-one f args t ns count v vs rest b h is none e =
    subst (AreColumns count (λ g. results (V.Aggregate f args) (group_at t ns g) 0 [])) (sym (e ∙ ap (λ (xs : List (List Value)). v ∷ xs) none))
    (columns-same count (λ g. val (V.Aggregate f args) (group_at t ns g) 0 [] ∷ []) (λ g. results (V.Aggregate f args) (group_at t ns g) 0 []) (v ∷ [])
    (λ g lt. sym (opened f args (group_at t ns g) ∙ one-step f args (val (V.Aggregate f args) (group_at t ns g) 0 []) (group_at t ns g) b h))
    (one-column count (λ g. val (V.Aggregate f args) (group_at t ns g) 0 []) v is))

pub ruleset call_steps = (call-one)

-- The value of one.

pub formed : (f : Aggregate) (args : List BExpr) (t : Grid) (ns : List ℕ) (count : ℕ) (vs : List Value) → IsTable t → IsCall t.columns f args → AreNumbers t ns count → vs ≡ over (V.Aggregate f args) t ns count → AreWellFormed vs
formed f args t ns count vs h call n e = call-formed f args t ns count vs h call n e

pub ruleset one_steps = (formed)

-- What the folds give.

pub folded-values : (f : Aggregate) (args : List BExpr) (t : Grid) (ns : List ℕ) (count : ℕ) (call : FoldCall) (first : List BExpr) (columns : List (List Value)) (vs : List Value) → IsCall t.columns f args → AreNumbers t ns count → call ≡ call_of f args t.columns → first ≡ take (needs f) args → columns ≡ argument_columns first t → vs ≡ folded_over call columns ns count → vs ≡ over (V.Aggregate f args) t ns count
folded-values f args t ns count call first columns vs fits h named read is made = folded-is f args t ns count call first columns vs fits h named read is made

chosen-group : (f : Aggregate) (args : List BExpr) (u : Grid) → is_best f ≡ true → chosen_row (call_of f args u.columns) (fold_rows f args u) ≡ best_row f args u
unfolding is_best best_row
chosen-group aggregate.ArgMax args u h = sym (chosen-is-greatest args u)
chosen-group aggregate.ArgMin args u h = sym (chosen-is-least args u)
chosen-group _ args u h = absurd cc

group-chosen : (f : Aggregate) (args : List BExpr) (t : Grid) (ns : List ℕ) (count g : ℕ) → is_best f ≡ true → IsCall t.columns f args → AreNumbers t ns count → chosen_row (call_of f args t.columns) (group_args (argument_columns (take (needs f) args) t) ns g) ≡ best_row f args (group_at t ns g)
unfolding fold_rows
group-chosen f args t ns count g best call h =
    let u = group_at t ns g in
    sym (ap₂ (λ (c : FoldCall) (rs : List (List Value)). chosen_row c rs) (ap (call_of f args) (group-columns t ns g)) (rows-of-group (take (needs f) args) t ns count g (first-plain t.columns f args (needs f) call) h))
    ∙ chosen-group f args u best

pub chosen-values : (f : Aggregate) (args : List BExpr) (t : Grid) (ns : List ℕ) (count : ℕ) (call : FoldCall) (first : List BExpr) (columns : List (List Value)) (ks : List ℕ) → is_best f ≡ true → IsCall t.columns f args → AreNumbers t ns count → call ≡ call_of f args t.columns → first ≡ take (needs f) args → columns ≡ argument_columns first t → ks ≡ chosen_over call columns ns count → ks ≡ best_rows f args t ns count
unfolding chosen_over best_rows
chosen-values f args t ns count call first columns ks best fits h named read is made =
    let same : columns ≡ argument_columns (take (needs f) args) t = is ∙ ap (λ (es : List BExpr). argument_columns es t) read in
    made
    ∙ map-range-same (λ g. chosen_row call (group_args columns ns g)) (λ g. best_row f args (group_at t ns g)) 0 count
    (λ g lt. ap₂ (λ (c : FoldCall) (cols : List (List Value)). chosen_row c (group_args cols ns g)) named same ∙ group-chosen f args t ns count g best fits h)

pub ruleset folded_steps = (first-arguments, arguments-formed, columns-long)

-- `arg_max` and `arg_min`.

best-step : (f : Aggregate) (args : List BExpr) (v : Value) (u : Grid) → is_best f ≡ true → results_step (BExpr-F.Aggregate f args) v u [] ≡ v ∷ values_in (drop 1 args) u (best_row f args u) []
unfolding is_best best_row
best-step aggregate.ArgMax args v u b = refl
best-step aggregate.ArgMin args v u b = refl
best-step _ args v u b = absurd cc

best-columns : (f : Aggregate) (args : List BExpr) (cs : List Column) → is_best f ≡ true → aggregate_takes f args cs ≡ true → list_all (is_plain_column cs) (drop 1 args) ≡ true
unfolding is_best aggregate_takes best_of
best-columns aggregate.ArgMax [] cs b h = absurd cc
best-columns aggregate.ArgMax (e ∷ es) cs b h = (and_parts (has_kind has_order (kind_of e cs)) (list_all (is_plain_column cs) es) h).1
best-columns aggregate.ArgMin [] cs b h = absurd cc
best-columns aggregate.ArgMin (e ∷ es) cs b h = (and_parts (has_kind has_order (kind_of e cs)) (list_all (is_plain_column cs) es) h).1
best-columns _ args cs b h = absurd cc

pub rest-plain : (f : Aggregate) (args rest : List BExpr) (cs : List Column) → IsCall cs f args → is_best f ≡ true → rest ≡ drop 1 args → list_all (is_plain_column cs) rest ≡ true
rest-plain f args rest cs call b e = subst (λ (es : List BExpr). list_all (is_plain_column cs) es ≡ true) (sym e) (best-columns f args cs b (call-takes cs f args call))

drop-plain : (args : List BExpr) → list_all is_plain args ≡ true → list_all is_plain (drop 1 args) ≡ true
drop-plain [] h = refl
drop-plain (e ∷ es) h = (and_parts (is_plain e) (list_all is_plain es) h).1

pub best-long : (f : Aggregate) (args : List BExpr) (t : Grid) (ns ks : List ℕ) (count : ℕ) → ks ≡ best_rows f args t ns count → length ks ≡ count
unfolding best_rows
best-long f args t ns ks count e = ap (λ (xs : List ℕ). length xs) e ∙ length-map-range_with_len (λ g. best_row f args (group_at t ns g)) 0 count

best-at : (f : Aggregate) (args : List BExpr) (t : Grid) (ns ks : List ℕ) (count g : ℕ) → g < count → ks ≡ best_rows f args t ns count → slice_index_or ks g 0 ≡ best_row f args (group_at t ns g)
unfolding best_rows
best-at f args t ns ks count g lt e = ap (λ (xs : List ℕ). slice_index_or xs g 0) e ∙ get_or-map-range_with_len (λ g. best_row f args (group_at t ns g)) 0 count g g 0 lt (omega arith)

pub best-results : (f : Aggregate) (args rest : List BExpr) (t : Grid) (ns ks : List ℕ) (count : ℕ) (rs : List (Option ℕ)) (v : List Value) (vs all : List (List Value)) → is_best f ≡ true → IsCall t.columns f args → v ≡ over (V.Aggregate f args) t ns count → ks ≡ best_rows f args t ns count → rest ≡ drop 1 args → rs ≡ picked_rows ns count ks → vs ≡ all_picked rest t rs → all ≡ v ∷ vs → AreColumns count (λ g. results (V.Aggregate f args) (group_at t ns g) 0 []) all
unfolding over
best-results f args rest t ns ks count rs v vs all best call is chosen er rows picks e =
    let plain = drop-plain args (args-plain t.columns f args call) in
    let first = one-column count (λ g. val (V.Aggregate f args) (group_at t ns g) 0 []) v is in
    let others = picked-columns (drop 1 args) t ns ks count rs vs plain rows (picks ∙ ap (λ (es : List BExpr). all_picked es t rs) er) in
    let both = columns-beside count (λ g. val (V.Aggregate f args) (group_at t ns g) 0 [] ∷ []) (λ g. values_in (drop 1 args) (group_at t ns g) (slice_index_or ks g 0) []) (v ∷ []) vs first others in
    subst (AreColumns count (λ g. results (V.Aggregate f args) (group_at t ns g) 0 [])) (sym e)
    (columns-same count (λ g. val (V.Aggregate f args) (group_at t ns g) 0 [] ∷ values_in (drop 1 args) (group_at t ns g) (slice_index_or ks g 0) []) (λ g. results (V.Aggregate f args) (group_at t ns g) 0 []) (v ∷ vs)
    (λ g lt.
    let u = group_at t ns g in
    ap (λ k. val (V.Aggregate f args) u 0 [] ∷ values_in (drop 1 args) u k []) (best-at f args t ns ks count g lt chosen)
    ∙ sym (opened f args u ∙ best-step f args (val (V.Aggregate f args) u 0 []) u best))
    both)

pub ruleset best_steps = (rest-plain, best-long, picked-within)

-- `take_any`.

pub zeros-long : (n : ℕ) (ks : List ℕ) → ks ≡ zeros n → length ks ≡ n
unfolding zeros
zeros-long n ks e = ap (λ (xs : List ℕ). length xs) e ∙ length-map-range_with_len (λ i. 0) 0 n

pub numbers-within : (t : Grid) (ns : List ℕ) (count : ℕ) → AreNumbers t ns count → All (λ n. n < count) ns
numbers-within t ns count h = h.within

pub ruleset zero_steps = (zeros-long, numbers-within)

zero-at : (n g : ℕ) → g < n → slice_index_or (zeros n) g 0 ≡ 0
unfolding zeros
zero-at n g lt = get_or-map-range_with_len (λ i. 0) 0 n g g 0 lt (omega arith)

first-step : (f : Aggregate) (args : List BExpr) (v : Value) (u : Grid) → is_first f ≡ true → results_step (BExpr-F.Aggregate f args) v u [] ≡ values_in args u 0 []
unfolding is_first
first-step aggregate.TakeAny args v u h = refl
first-step _ args v u h = absurd cc

first-columns : (f : Aggregate) (args : List BExpr) (cs : List Column) → is_first f ≡ true → aggregate_takes f args cs ≡ true → (0 < length args) × (list_all (is_plain_column cs) args ≡ true)
unfolding is_first aggregate_takes first_row_of
first-columns aggregate.TakeAny [] cs b h = absurd cc
first-columns aggregate.TakeAny (e ∷ es) cs b h = (omega arith, h)
first-columns _ args cs b h = absurd cc

pub all-plain : (f : Aggregate) (args : List BExpr) (cs : List Column) → IsCall cs f args → is_first f ≡ true → list_all (is_plain_column cs) args ≡ true
all-plain f args cs call h = (first-columns f args cs h (call-takes cs f args call)).1

pub some-args : (f : Aggregate) (args : List BExpr) (cs : List Column) → IsCall cs f args → is_first f ≡ true → 0 < length args
some-args f args cs call h = (first-columns f args cs h (call-takes cs f args call)).0

pub one-plain : (f : Aggregate) (args : List BExpr) (e : BExpr) (cs : List Column) → IsCall cs f args → is_first f ≡ true → 1 ≤ length args → e ≡ get_or args 0 e → is_plain_column cs e ≡ true
one-plain f [] e cs call h lt is = absurd (omega arith)
one-plain f (x ∷ es) e cs call h lt is = subst (λ (y : BExpr). is_plain_column cs y ≡ true) (sym is) (and_parts (is_plain_column cs x) (list_all (is_plain_column cs) es) (all-plain f (x ∷ es) cs call h)).0

pub first-within : (t : Grid) (ns : List ℕ) (count : ℕ) (rs : List (Option ℕ)) → AreNumbers t ns count → rs ≡ picked_rows ns count (zeros count) → All (IsWithin (length t.lines)) rs
first-within t ns count rs h e = picked-within t ns (zeros count) count rs h e

pub first-results : (f : Aggregate) (args : List BExpr) (t : Grid) (ns : List ℕ) (count : ℕ) (rs : List (Option ℕ)) (vs : List (List Value)) → is_first f ≡ true → IsCall t.columns f args → rs ≡ picked_rows ns count (zeros count) → vs ≡ all_picked args t rs → AreColumns count (λ g. results (V.Aggregate f args) (group_at t ns g) 0 []) vs
first-results f args t ns count rs vs h call rows picks =
    columns-same count (λ g. values_in args (group_at t ns g) (slice_index_or (zeros count) g 0) []) (λ g. results (V.Aggregate f args) (group_at t ns g) 0 []) vs
    (λ g lt.
    let u = group_at t ns g in
    ap (λ k. values_in args u k []) (zero-at count g lt) ∙ sym (opened f args u ∙ first-step f args (val (V.Aggregate f args) u 0 []) u h))
    (picked-columns args t ns (zeros count) count rs vs (args-plain t.columns f args call) rows picks)

first-value : (f : Aggregate) (e : BExpr) (es : List BExpr) (u : Grid) → is_first f ≡ true → val (V.Aggregate f (e ∷ es)) u 0 [] ≡ val e u 0 []
unfolding is_first aggregated reading_at val
first-value aggregate.TakeAny e es u h = val-Aggregate aggregate.TakeAny (e ∷ es) u 0 []
first-value _ e es u h = absurd cc

plain-first : (e : BExpr) (es : List BExpr) → list_all is_plain (e ∷ es) ≡ true → is_plain e ≡ true
plain-first e es h = (and_parts (is_plain e) (list_all is_plain es) h).0

pub first-over : (f : Aggregate) (args : List BExpr) (e : BExpr) (t : Grid) (ns : List ℕ) (count : ℕ) (rs : List (Option ℕ)) (v : List Value) → is_first f ≡ true → IsCall t.columns f args → 1 ≤ length args → e ≡ get_or args 0 e → rs ≡ picked_rows ns count (zeros count) → v ≡ picked e t rs → v ≡ over (V.Aggregate f args) t ns count
unfolding over picked picked_rows
first-over f [] e t ns count rs v h call lt is rows picks = absurd (omega arith)
first-over f (x ∷ es) e t ns count rs v h call lt is rows picks =
    let plain = plain-first x es (args-plain t.columns f (x ∷ es) call) in
    let at : v ≡ picked x t rs = picks ∙ ap (λ (y : BExpr). picked y t rs) is in
    at
    ∙ (ap (picked x t) rows
    ∙ (map-map (at_row x t) (λ g. slice_get (places_of ns g) (slice_index_or (zeros count) g 0)) (range_with_len 0 count)
    ∙ map-range-same (λ g. at_row x t (slice_get (places_of ns g) (slice_index_or (zeros count) g 0))) (λ g. val (V.Aggregate f (x ∷ es)) (group_at t ns g) 0 []) 0 count
    (λ g below.
    ap (λ k. at_row x t (slice_get (places_of ns g) k)) (zero-at count g (omega (arith, below)))
    ∙ (sym (at-picked x t ns g 0 plain) ∙ sym (first-value f x es (group_at t ns g) h)))))

pub ruleset first_steps = (all-plain, one-plain, first-within)
