-- One pass over rows, with a fold for each group.
use Rattle.std.proofs.Common.{◌≡◌, ◌≢◌, ◌<◌, ◌≤◌, ◌+◌, ◌^◌, ◌==◌, ◌++◌, ℕ, true, false, List, [], ◌∷◌, get_or, set, length, map, take, refl, ap, sym, ◌∙◌, subst, inl, inr, arith}
use Rattle.std.specs.Prelude.{All}
use Rattle.std.specs.List.{AllByRecursion, range_with_len}
use Rattle.std.proofs.lemmas.Bool.{cases_Bool}
use Rattle.std.proofs.lemmas.Bool.Decides.{nat_tests}
use Rattle.std.proofs.lemmas.List.{append-nil, ext_get_or, get_or-set_other, get_or-set_same, length-map, length-set, length-take-le, map-append}
use Rattle.std.proofs.lemmas.List.Elements.{recursion_from_All}
use Rattle.std.proofs.lemmas.List.FromFn.{get_or-map-range_with_len, length-map-range_with_len, map-range_with_len_more}
use Rattle.kql_cells.specs.Seen.{value_at}
use Rattle.kql_cells.specs.declared.value.Value.{Value}
use Rattle.kql_values.specs.Grids.{row_of}
use Rattle.kql_keys.specs.Places.{places_of}
use Rattle.kql_keys.proofs.PlaceFacts.{places-more, places-size, times-low}
use Rattle.kql_scalar_fns.specs.Arguments.{AreWellFormed}
use Rattle.agg_folds.specs.Folds.{folded}
use Rattle.agg_folds.specs.States.{Kept, fold_of}
use Rattle.agg_folds.specs.declared.call.FoldCall.{FoldCall}
use Rattle.agg_folds.proofs.RowLaws.{count-of-fold}
use Rattle.summarize_op.specs.Grouped.{AreFormed}
use Rattle.summarize_op.specs.Passes.{folded_over, folds_of, group_args}
use Rattle.summarize_op.proofs.AppliedSteps.{form-at, joined-forms, no-forms, place-inside}

-- A list of what a function makes of each number, of which one is changed.
changed : {X : Type 0} (f g : ℕ → X) (c x : ℕ) (v d : X) (list new : List X) → list ≡ map f (range_with_len 0 c) → x < c → new ≡ set list x v → v ≡ g x → ((k : ℕ) → k ≢ x → g k ≡ f k) → new ≡ map g (range_with_len 0 c)
changed f g c x v d list new el xc en ev same =
    let many : length list ≡ c = rw el (length-map-range_with_len f 0 c) in
    let size : length new ≡ c = rw en (length-set list x v ∙ many) in
    let size2 = length-map-range_with_len g 0 c in
    let within : x < length list = omega (arith, many) in
    ext_get_or d new (map g (range_with_len 0 c)) (size ∙ sym size2) (λ k lt.
    let kc : k < c = omega (arith, size, lt) in
    let want : get_or (map g (range_with_len 0 c)) k d ≡ g k = get_or-map-range_with_len g 0 c k k d kc (omega arith) in
    let was : get_or list k d ≡ f k = ap (λ xs. get_or xs k d) el ∙ get_or-map-range_with_len f 0 c k k d kc (omega arith) in
    elim (cases_Bool (x == k)) [
      | inl t ↦
          let e : x ≡ k = grind (arith, nat_tests) in
          ap (λ xs. get_or xs k d) en ∙ (ap (λ j. get_or (set list x v) j d) (sym e) ∙ (get_or-set_same list x v d within ∙ (ev ∙ (ap g e ∙ sym want))))
      | inr n ↦
          let ne : k ≢ x = λ e. grind (arith, nat_tests) in
          ap (λ xs. get_or xs k d) en ∙ (get_or-set_other list x k v d ne ∙ (was ∙ (sym (same k ne) ∙ sym want)))
    ])

-- The rows of a number, one more or not.

args-same : (columns : List (List Value)) (ns : List ℕ) (i k : ℕ) → i < length ns → k ≢ get_or ns i 0 → group_args columns (take (i + 1) ns) k ≡ group_args columns (take i ns) k
unfolding group_args
args-same columns ns i k lt ne =
    let test : (get_or ns i 0 == k) ≡ false = grind (arith, nat_tests) in
    let more = places-more ns i k 0 lt in
    ap (map (row_of columns)) (rw test at more ∙ append-nil (places_of (take i ns) k))

args-more : (columns : List (List Value)) (ns : List ℕ) (i : ℕ) → i < length ns → group_args columns (take (i + 1) ns) (get_or ns i 0) ≡ group_args columns (take i ns) (get_or ns i 0) ++ row_of columns i ∷ []
unfolding group_args
args-more columns ns i lt =
    let x = get_or ns i 0 in
    let test : (x == x) ≡ true = grind (arith, nat_tests) in
    let more = places-more ns i x 0 lt in
    ap (map (row_of columns)) (rw test at more) ∙ map-append (row_of columns) (places_of (take i ns) x) (i ∷ [])

pub folds-start : (call : FoldCall) (columns : List (List Value)) (ns : List ℕ) (count : ℕ) (fs : List Kept) → fs ≡ map (λ g. fold_of call []) (range_with_len 0 count) → fs ≡ folds_of call columns (take 0 ns) count
unfolding folds_of group_args places_of
folds-start call columns ns count fs e = e

pub folds-step : (call : FoldCall) (columns : List (List Value)) (ns : List ℕ) (count i x : ℕ) (old new : List Kept) → i < length ns → x ≡ get_or ns i 0 → x < count → old ≡ folds_of call columns (take i ns) count → new ≡ set old x (fold_of call (group_args columns (take i ns) x ++ row_of columns i ∷ [])) → new ≡ folds_of call columns (take (i + 1) ns) count
unfolding folds_of
folds-step call columns ns count i x old new lt is xc before after =
    changed (λ g. fold_of call (group_args columns (take i ns) g)) (λ g. fold_of call (group_args columns (take (i + 1) ns) g)) count x (fold_of call (group_args columns (take i ns) x ++ row_of columns i ∷ [])) (fold_of call []) old new before xc after
    (ap (fold_of call) (subst (λ y. group_args columns (take i ns) y ++ row_of columns i ∷ [] ≡ group_args columns (take (i + 1) ns) y) (sym is) (sym (args-more columns ns i lt))))
    (λ k ne. ap (fold_of call) (args-same columns ns i k lt (λ e. ne (e ∙ sym is))))

-- The fold of a number before a row.
pub fold-at : (call : FoldCall) (columns : List (List Value)) (ns : List ℕ) (count x : ℕ) (d : Kept) (fs : List Kept) → x < count → fs ≡ folds_of call columns ns count → get_or fs x d ≡ fold_of call (group_args columns ns x)
unfolding folds_of
fold-at call columns ns count x d fs xc e = ap (λ xs. get_or xs x d) e ∙ get_or-map-range_with_len (λ g. fold_of call (group_args columns ns g)) 0 count x x d xc (omega arith)

pub folds-many : (call : FoldCall) (columns : List (List Value)) (ns : List ℕ) (count : ℕ) (fs : List Kept) → fs ≡ folds_of call columns ns count → length fs ≡ count
unfolding folds_of
folds-many call columns ns count fs e = ap (λ (xs : List Kept). length xs) e ∙ length-map-range_with_len (λ g. fold_of call (group_args columns ns g)) 0 count

args-few : (columns : List (List Value)) (ns : List ℕ) (g : ℕ) → length (group_args columns ns g) ≤ length ns
unfolding group_args
args-few columns ns g =
    let size = length-map (places_of ns g) (row_of columns) in
    omega (arith, size, places-size ns g, times-low ns g)

pub fold-room : (call : FoldCall) (columns : List (List Value)) (ns : List ℕ) (count i x : ℕ) (fs : List Kept) → i < length ns → length ns < 2 ^ 63 → x < count → fs ≡ folds_of call columns (take i ns) count → (d : Kept) → (get_or fs x d).count < 2 ^ 63
fold-room call columns ns count i x fs lt small xc e d =
    let is = fold-at call columns (take i ns) count x d fs xc e in
    let most = count-of-fold call (group_args columns (take i ns) x) in
    let few = args-few columns (take i ns) x in
    let size : length (take i ns) ≡ i = length-take-le i ns (omega (arith, lt)) in
    let same : (get_or fs x d).count ≡ (fold_of call (group_args columns (take i ns) x)).count = ap (λ (k : Kept). k.count) is in
    omega (arith, most, few, size, same, small, lt)

pub same-folds : (call : FoldCall) (a b : List (List Value)) (ns : List ℕ) (count : ℕ) (fs gs : List Kept) → fs ≡ folds_of call a ns count → gs ≡ fs → b ≡ a → gs ≡ folds_of call b ns (length gs)
same-folds call a b ns count fs gs e is same =
    let many : length gs ≡ count = ap (λ (xs : List Kept). length xs) is ∙ folds-many call a ns count fs e in
    is ∙ (e ∙ (ap (λ (cs : List (List Value)). folds_of call cs ns count) (sym same) ∙ ap (folds_of call b ns) (sym many)))

pub ruleset pass_steps = (folds-start, place-inside)

pub news-more : (call : FoldCall) (g : ℕ) (old new : List Kept) (k : Kept) → old ≡ map (λ g. fold_of call []) (range_with_len 0 g) → k ≡ fold_of call [] → new ≡ old ++ k ∷ [] → new ≡ map (λ g. fold_of call []) (range_with_len 0 (g + 1))
news-more call g old new k before is after =
    after ∙ (ap (λ (xs : List Kept). xs ++ k ∷ []) before ∙ (ap (λ (x : Kept). map (λ g. fold_of call []) (range_with_len 0 g) ++ x ∷ []) is ∙ sym (map-range_with_len_more (λ g. fold_of call []) 0 g g (omega arith))))

pub ruleset new_steps = (news-more)

-- The cells of a row.

pub row-none : (cs : List (List Value)) (i : ℕ) → length cs < 1 → row_of cs i ≡ []
unfolding row_of
row-none [] i lt = refl
row-none (c ∷ cs) i lt = absurd (omega arith)

pub row-one : (cs : List (List Value)) (i : ℕ) (a : List Value) → 1 ≤ length cs → length cs < 2 → a ≡ get_or cs 0 a → row_of cs i ≡ value_at a i ∷ []
unfolding row_of
row-one [] i a low high is = absurd (omega arith)
row-one (c ∷ []) i a low high is = ap (λ (x : List Value). value_at x i ∷ []) (sym is)
row-one (c ∷ d ∷ cs) i a low high is = absurd (omega arith)

pub row-two : (cs : List (List Value)) (i : ℕ) (a b : List Value) → 2 ≤ length cs → length cs < 3 → a ≡ get_or cs 0 a → b ≡ get_or cs 1 b → row_of cs i ≡ value_at a i ∷ value_at b i ∷ []
unfolding row_of
row-two [] i a b low high is more = absurd (omega arith)
row-two (c ∷ []) i a b low high is more = absurd (omega arith)
row-two (c ∷ d ∷ []) i a b low high is more = rw (← is, ← more) refl
row-two (c ∷ d ∷ e ∷ cs) i a b low high is more = absurd (omega arith)

each-inside : (cs : List (List Value)) (i : ℕ) → AllByRecursion (λ (v : List Value). i < length v) cs → AllByRecursion AreWellFormed cs → AreWellFormed (row_of cs i)
unfolding row_of
each-inside [] i h f = no-forms
each-inside (c ∷ cs) i h f = joined-forms (value_at c i) (row_of cs i) (form-at c i f.0 h.0) (each-inside cs i h.1 f.1)

pub row-formed : (cs : List (List Value)) (i : ℕ) → All (λ (v : List Value). i < length v) cs → AreFormed cs → AreWellFormed (row_of cs i)
row-formed cs i h f = each-inside cs i (recursion_from_All (λ (v : List Value). i < length v) cs h) (recursion_from_All AreWellFormed cs f.each)

pub column-inside : (cs : List (List Value)) (i k : ℕ) (v : List Value) → All (λ (v : List Value). i < length v) cs → k < length cs → v ≡ get_or cs k v → i < length v
column-inside cs i k v h lt is = subst (λ (x : List Value). i < length x) (sym is) (h k v lt)

pub ruleset row_steps = (row-none, row-one, row-two, row-formed, column-inside)

-- The values of the folds.

pub finish-start : (call : FoldCall) (columns : List (List Value)) (ns : List ℕ) → folded_over call columns ns 0 ≡ []
unfolding folded_over
finish-start call columns ns = refl

pub finish-step : (call : FoldCall) (columns : List (List Value)) (ns : List ℕ) (g : ℕ) (v : Value) (old new : List Value) → old ≡ folded_over call columns ns g → v ≡ folded call (group_args columns ns g) → new ≡ old ++ v ∷ [] → new ≡ folded_over call columns ns (g + 1)
unfolding folded_over
finish-step call columns ns g v old new before is after =
    after ∙ (ap (λ (xs : List Value). xs ++ v ∷ []) before ∙ (ap (λ (x : Value). map (λ g. folded call (group_args columns ns g)) (range_with_len 0 g) ++ x ∷ []) is ∙ sym (map-range_with_len_more (λ g. folded call (group_args columns ns g)) 0 g g (omega arith))))

pub ruleset finish_steps = (finish-start)
