-- The fold of rows, row by row.
use Rattle.std.proofs.Common.{◌≡◌, ◌+◌, ◌≤◌, ◌++◌, ◌∷◌, ◌∙◌, ℕ, List, [], length, refl, sym, ap, arith, subst}
use Rattle.std.specs.Prelude.{Option, None, Some, filter_map, Result, Ok, Err, OnOk}
use Rattle.std.specs.List.{cons_option}
use Rattle.std.proofs.lemmas.List.{append-nil, length-append}
use Rattle.std.proofs.lemmas.List.Elements.{filter_map-append}
use Rattle.kql_cells.specs.declared.value.Kind.{Kind}
use Rattle.kql_cells.specs.declared.value.Value.{Value}
use Rattle.kql_functions.specs.declared.aggregate.Aggregate.{Aggregate}
use Rattle.kql_functions.specs.declared.aggregate.Aggregate.TheVariants as aggregate
use Rattle.kql_meaning.specs.Numbers.{sum_of}
use Rattle.kql_meaning.specs.Results.{greatest_row, least_row, row_of}
use Rattle.agg_folds.specs.declared.call.FoldCall.{FoldCall}
use Rattle.agg_folds.specs.Folds.{chosen_row, folded, taken, taken_of}
use Rattle.agg_folds.specs.States.{IsBounded, Kept, bits_in, first_of, fold_of, greatest_of, kept_of, least_of, list_of, place_in, set_of, started, state_by, state_of, value_in, with_row, with_taken, with_value}
use Rattle.agg_folds.specs.declared.state.State.{State}
use Rattle.agg_folds.proofs.TotalFacts.{sum-of-none}
use Rattle.agg_folds.proofs.StateLaws.{state-place, state-push, state-value}

taken-push : (f : Aggregate) (rows : List (List Value)) (row : List Value) → taken_of f (rows ++ row ∷ []) ≡ taken_of f rows ++ cons_option (taken f row) []
unfolding taken_of
taken-push f rows row = filter_map-append (taken f) rows (row ∷ [])

kept-push : (call : FoldCall) (vs : List Value) (v : Value) → kept_of call (vs ++ v ∷ []) ≡ with_value (kept_of call vs) v
unfolding kept_of with_value state_of
kept-push call vs v =
    rw (state-push call.aggregate call.kind call.limit vs v, length-append vs (v ∷ [])) refl

-- A row of which nothing is taken, and one of which a value is.
pub row-passed : (call : FoldCall) (rows : List (List Value)) (row : List Value) (old : Kept) → old ≡ fold_of call rows → taken old.aggregate row ≡ None → old ≡ fold_of call (rows ++ row ∷ [])
unfolding fold_of kept_of
row-passed call rows row old e t =
    let f : taken call.aggregate row ≡ None = sym (ap (λ (k : Kept). taken k.aggregate row) e) ∙ t in
    e ∙ sym (ap (kept_of call) (taken-push call.aggregate rows row ∙ rw f (append-nil (taken_of call.aggregate rows))))

pub row-taken : (call : FoldCall) (rows : List (List Value)) (row : List Value) (v : Value) (old new : Kept) → old ≡ fold_of call rows → taken old.aggregate row ≡ Some v → new ≡ with_value old v → new ≡ fold_of call (rows ++ row ∷ [])
unfolding fold_of kept_of
row-taken call rows row v old new e t n =
    let f : taken call.aggregate row ≡ Some v = sym (ap (λ (k : Kept). taken k.aggregate row) e) ∙ t in
    let whole : taken_of call.aggregate (rows ++ row ∷ []) ≡ taken_of call.aggregate rows ++ v ∷ [] = taken-push call.aggregate rows row ∙ rw f refl in
    n ∙ ap (λ k. with_value k v) e ∙ sym (ap (kept_of call) whole ∙ kept-push call (taken_of call.aggregate rows) v)

-- One row more, whatever is kept.
pub with-none : (k : Kept) (row : List Value) → taken k.aggregate row ≡ None → k ≡ with_row k row
unfolding with_row with_taken
with-none k row t = rw t refl

pub with-some : (k new : Kept) (row : List Value) (v : Value) → taken k.aggregate row ≡ Some v → new ≡ with_value k v → new ≡ with_row k row
unfolding with_row with_taken
with-some k new row v t e = e ∙ rw t refl

step-by : (call : FoldCall) (rows : List (List Value)) (row : List Value) (o : Option Value) → taken (fold_of call rows).aggregate row ≡ o → fold_of call (rows ++ row ∷ []) ≡ with_row (fold_of call rows) row
step-by call rows row None t = sym (row-passed call rows row (fold_of call rows) refl t) ∙ with-none (fold_of call rows) row t
step-by call rows row (Some v) t =
    let n = with_value (fold_of call rows) v in
    sym (row-taken call rows row v (fold_of call rows) n refl t refl) ∙ with-some (fold_of call rows) n row v t refl

pub fold-steps : (call : FoldCall) (rows : List (List Value)) (row : List Value) → fold_of call (rows ++ row ∷ []) ≡ with_row (fold_of call rows) row
fold-steps call rows row = step-by call rows row (taken (fold_of call rows).aggregate row) refl

pub value-of-fold : (call : FoldCall) (rows : List (List Value)) (k : Kept) → k ≡ fold_of call rows → value_in k.state k.count ≡ folded call rows
unfolding fold_of kept_of state_of folded
value-of-fold call rows k e = ap (λ (k : Kept). value_in k.state k.count) e ∙ state-value call.aggregate call.kind call.limit (taken_of call.aggregate rows)

pub place-of-fold : (call : FoldCall) (rows : List (List Value)) (k : Kept) → k ≡ fold_of call rows → place_in k.state ≡ chosen_row call rows
unfolding fold_of kept_of state_of chosen_row
place-of-fold call rows k e = ap (λ (k : Kept). place_in k.state) e ∙ state-place call.aggregate call.kind call.limit (taken_of call.aggregate rows)

-- A fold has taken no more values than rows.
shorter-by : {X : Type 0} (o : Option X) (ys : List X) (n : ℕ) → length ys ≤ n → length (cons_option o ys) ≤ n + 1
shorter-by None ys n h = omega (arith, h)
shorter-by (Some y) ys n h = omega (arith, h)

shorter : {X Y : Type 0} (f : X → Option Y) (xs : List X) → length (filter_map f xs) ≤ length xs
shorter f [] = omega arith
shorter f (x ∷ xs) = let h = shorter-by (f x) (filter_map f xs) (length xs) (shorter f xs) in omega (arith, h)

pub count-of-fold : (call : FoldCall) (rows : List (List Value)) → (fold_of call rows).count ≤ length rows
unfolding fold_of kept_of taken_of
count-of-fold call rows = shorter (taken call.aggregate) rows

-- Where a fold starts.
abbrev fresh : FoldCall → State → Kept
fresh call s = record { aggregate = call.aggregate; count = 0; state = s }

pub fold_start : (call : FoldCall) (s : State) → s ≡ started call → fresh call s ≡ fold_of call []
unfolding fold_of kept_of taken_of started
fold_start call s e = rw e refl

bounded-by : (f : Aggregate) (kind : Option Kind) (limit : Option ℕ) → IsBounded 0 (state_by f kind limit [])
unfolding state_by IsBounded greatest_of greatest_row least_of least_row row_of first_of list_of set_of bits_in sum_of
bounded-by aggregate.Count kind limit = tt
bounded-by aggregate.CountIf kind limit = tt
bounded-by aggregate.CountDistinct kind limit = tt
bounded-by aggregate.CountDistinctIf kind limit = tt
bounded-by aggregate.Sum kind limit = sum-of-none
bounded-by aggregate.SumIf kind limit = sum-of-none
bounded-by aggregate.Min kind limit = omega arith
bounded-by aggregate.MinIf kind limit = omega arith
bounded-by aggregate.Max kind limit = omega arith
bounded-by aggregate.MaxIf kind limit = omega arith
bounded-by aggregate.MakeList kind limit = tt
bounded-by aggregate.MakeListIf kind limit = tt
bounded-by aggregate.MakeSet kind limit = tt
bounded-by aggregate.MakeSetIf kind limit = tt
bounded-by aggregate.ArgMax kind limit = omega arith
bounded-by aggregate.ArgMin kind limit = omega arith
bounded-by aggregate.TakeAny kind limit = omega arith
bounded-by aggregate.BinaryAllAnd kind limit = tt
bounded-by aggregate.BinaryAllOr kind limit = tt
bounded-by aggregate.BinaryAllXor kind limit = tt

pub bounded_start : (call : FoldCall) (s : State) → s ≡ started call → IsBounded 0 s
unfolding started state_of
bounded_start call s e = subst (λ (x : State). IsBounded 0 x) (sym e) (bounded-by call.aggregate call.kind call.limit)

pub ruleset start_facts = (fold_start, bounded_start)

-- What holds on success.
pub ok-along : {A E : Type 0} (r : Result A E) (P Q : Type 0) → (P → Q) → OnOk r P → OnOk r Q
ok-along (Ok a) P Q f h = f h
ok-along (Err e) P Q f h = tt
