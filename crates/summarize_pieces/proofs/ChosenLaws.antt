-- The row that is chosen of two lists of rows, and what is kept of both.
use Rattle.std.proofs.Common.{◌≡◌, ◌<◌, ◌+◌, ◌==◌, ◌++◌, ℕ, zero, suc, true, false, List, [], ◌∷◌, drop, length, refl, ap, ap₂, sym, ◌∙◌, subst, append_assoc, inl, inr, arith}
use Rattle.std.specs.Prelude.{◌⊎◌, All, None, Option, Some, nat_lt, slice_get, if◌then◌else◌}
use Rattle.std.proofs.lemmas.Bool.{cases_Bool}
use Rattle.std.proofs.lemmas.Bool.Decides.{nat_tests}
use Rattle.std.proofs.lemmas.List.{append-nil, length-append, length-map, map-append}
use Rattle.kql_cells.specs.Table.{Grid}
use Rattle.kql_cells.specs.declared.schema.Column.{Column}
use Rattle.kql_cells.specs.declared.value.Kind.{Kind}
use Rattle.kql_cells.specs.declared.value.Value.{Value}
use Rattle.kql_functions.specs.declared.aggregate.Aggregate.{Aggregate}
use Rattle.kql_functions.specs.declared.aggregate.Aggregate.TheVariants as aggregate
use Rattle.kql_bound.specs.declared.expr.BExpr.{BExpr}
use Rattle.kql_scalar_fns.specs.Choice.{greatest, least}
use Rattle.kql_meaning.specs.Expressions.{values_in}
use Rattle.kql_meaning.specs.Results.{greatest_row, least_row}
use Rattle.agg_folds.specs.Calls.{call_of}
use Rattle.agg_folds.specs.Folds.{chosen_row, taken, taken_of}
use Rattle.agg_folds.specs.Kept.{is_better, joined_best, met}
use Rattle.agg_folds.specs.Pieces.{IsRowOf}
use Rattle.agg_folds.specs.States.{Kept, fold_of, greatest_of, joined, kept_of, least_of, place_in, state_by, state_of, with_fold}
use Rattle.agg_folds.specs.declared.best.Best.{Best}
use Rattle.agg_folds.specs.declared.best.Prefer.TheVariants as prefer
use Rattle.agg_folds.specs.declared.call.FoldCall.{FoldCall}
use Rattle.agg_folds.proofs.BestLaws.{greatest-push, least-push}
use Rattle.agg_folds.proofs.PieceLaws.{fold-joins}
use Rattle.agg_folds.proofs.RowLaws.{place-of-fold}
use Rattle.summarize_op.specs.Calls.{is_best}
use Rattle.summarize_pieces.specs.Calls.{further_args}
use Rattle.summarize_pieces.specs.Joined.{with_kept}
use Rattle.summarize_pieces.specs.Pieces.{args_at, args_of, call_over, further_at, state_at}

-- The place of the best value is one of the places, where there is a value.

low-met : (b : Best) (n : ℕ) (v : Value) → (0 < n → b.place < n) → (met b n v).place < n + 1
unfolding met
low-met b zero v h = omega arith
low-met b (suc n) v h =
    let some : (suc n == 0) ≡ false = grind (arith, nat_tests) in
    elim (cases_Bool (is_better b.prefer b.value v)) [
      | inl t ↦ rw (some, t) (omega arith)
      | inr f ↦ let low = h (omega arith) in rw (some, f) (omega (arith, low))
    ]

module _ (best : List Value → Best) (push : (vs : List Value) (v : Value) → best (vs ++ v ∷ []) ≡ met (best vs) (length vs) v) where
  low-more : (ws vs : List Value) → (0 < length vs → (best vs).place < length vs) → 0 < length (vs ++ ws) → (best (vs ++ ws)).place < length (vs ++ ws)
  low-more [] vs h some =
      let same = append-nil vs in
      subst (λ (xs : List Value). (best xs).place < length xs) (sym same) (h (subst (λ (xs : List Value). 0 < length xs) same some))
  low-more (w ∷ ws) vs h some =
      let same : (vs ++ w ∷ []) ++ ws ≡ vs ++ w ∷ ws = append_assoc vs (w ∷ []) ws in
      let size : length (vs ++ w ∷ []) ≡ length vs + 1 = length-append vs (w ∷ []) in
      let low : (best (vs ++ w ∷ [])).place < length (vs ++ w ∷ []) = subst (λ n. (best (vs ++ w ∷ [])).place < n) (sym size) (subst (λ (b : Best). b.place < length vs + 1) (sym (push vs w)) (low-met (best vs) (length vs) w h)) in
      subst (λ (xs : List Value). (best xs).place < length xs) same (low-more ws (vs ++ w ∷ []) (λ x. low) (subst (λ (xs : List Value). 0 < length xs) (sym same) some))

  low : (vs : List Value) → 0 < length vs → (best vs).place < length vs
  low vs some = low-more vs [] (λ x. absurd (omega (arith, x))) some

-- The place of the best value of two lists.

best-place : (b c : Best) (n : ℕ) → (0 < n → b.place < n) → ((joined_best b n c).place ≡ n + c.place) ⊎ (((joined_best b n c).place ≡ b.place) × (b.place < n))
unfolding joined_best
best-place b c zero h = inl refl
best-place b c (suc n) h =
    let some : (suc n == 0) ≡ false = grind (arith, nat_tests) in
    elim (cases_Bool (is_better b.prefer b.value c.value)) [
      | inl t ↦ inl (rw (some, t) refl)
      | inr f ↦ inr (rw (some, f) refl, h (omega arith))
    ]

abbrev best_greatest : List Value → Best
best_greatest vs = record { prefer = prefer.Greatest; value = greatest vs; place = greatest_row vs }

abbrev best_least : List Value → Best
best_least vs = record { prefer = prefer.Least; value = least vs; place = least_row vs }

-- Of two folds that are joined, the chosen row is one of the second or the one that is chosen of the first.
abbrev OneOf : ℕ → ℕ → ℕ → ℕ → Type 0
OneOf p n a b = (p ≡ n + b) ⊎ ((p ≡ a) × (a < n))

by-aggregate : (f : Aggregate) (kind : Option Kind) (limit : Option ℕ) (vs ws : List Value) → is_best f ≡ true → OneOf (place_in (joined (state_by f kind limit vs) (length vs) (state_by f kind limit ws))) (length vs) (place_in (state_by f kind limit vs)) (place_in (state_by f kind limit ws))
unfolding is_best state_by greatest_of least_of joined place_in
by-aggregate aggregate.ArgMax kind limit vs ws h = best-place (best_greatest vs) (best_greatest ws) (length vs) (low best_greatest greatest-push vs)
by-aggregate aggregate.ArgMin kind limit vs ws h = best-place (best_least vs) (best_least ws) (length vs) (low best_least least-push vs)
by-aggregate _ kind limit vs ws h = absurd cc

all-taken : (f : Aggregate) (rows : List (List Value)) → is_best f ≡ true → length (taken_of f rows) ≡ length rows
unfolding is_best taken_of taken
all-taken aggregate.ArgMax [] h = refl
all-taken aggregate.ArgMax (row ∷ rows) h = let rest = all-taken aggregate.ArgMax rows h in omega (arith, rest)
all-taken aggregate.ArgMin [] h = refl
all-taken aggregate.ArgMin (row ∷ rows) h = let rest = all-taken aggregate.ArgMin rows h in omega (arith, rest)
all-taken _ rows h = absurd cc

folds-place : (call : FoldCall) (rows more : List (List Value)) → is_best call.aggregate ≡ true → OneOf (place_in (with_fold (fold_of call rows) (fold_of call more)).state) (length (taken_of call.aggregate rows)) (place_in (fold_of call rows).state) (place_in (fold_of call more).state)
unfolding with_fold fold_of kept_of state_of
folds-place call rows more h = by-aggregate call.aggregate call.kind call.limit (taken_of call.aggregate rows) (taken_of call.aggregate more) h

fold-count : (call : FoldCall) (rows : List (List Value)) → is_best call.aggregate ≡ true → (fold_of call rows).count ≡ length rows
unfolding fold_of kept_of
fold-count call rows h = all-taken call.aggregate rows h

chosen-place : (call : FoldCall) (rows more : List (List Value)) → is_best call.aggregate ≡ true → OneOf (place_in (with_fold (fold_of call rows) (fold_of call more)).state) (length rows) (chosen_row call rows) (chosen_row call more)
chosen-place call rows more h =
    subst (λ n. OneOf (place_in (with_fold (fold_of call rows) (fold_of call more)).state) n (chosen_row call rows) (chosen_row call more)) (all-taken call.aggregate rows h)
    (subst (λ a. OneOf (place_in (with_fold (fold_of call rows) (fold_of call more)).state) (length (taken_of call.aggregate rows)) a (chosen_row call more)) (place-of-fold call rows (fold_of call rows) refl)
    (subst (λ b. OneOf (place_in (with_fold (fold_of call rows) (fold_of call more)).state) (length (taken_of call.aggregate rows)) (place_in (fold_of call rows).state) b) (place-of-fold call more (fold_of call more) refl)
    (folds-place call rows more h)))

-- The row at it.

get-behind : (is js : List ℕ) (b : ℕ) → slice_get (is ++ js) (length is + b) ≡ slice_get js b
get-behind [] js b = let e : 0 + b ≡ b = omega arith in ap (slice_get js) e
get-behind (i ∷ is) js b = let e : suc (length is) + b ≡ suc (length is + b) = omega arith in ap (slice_get (i ∷ (is ++ js))) e ∙ get-behind is js b

get-before : (is js : List ℕ) (a : ℕ) → a < length is → slice_get (is ++ js) a ≡ slice_get is a
get-before [] js a lt = absurd (omega (arith, lt))
get-before (i ∷ is) js zero lt = refl
get-before (i ∷ is) js (suc a) lt = get-before is js a (omega (arith, lt))

row-of-both : (p : ℕ) (is js : List ℕ) (a b : ℕ) → OneOf p (length is) a b → slice_get (is ++ js) p ≡ (if nat_lt p (length is) then slice_get is a else slice_get js b)
row-of-both p is js a b h = elim h [
  | inl e ↦
      let behind : nat_lt p (length is) ≡ false = grind (arith, nat_tests) in
      rw behind (ap (slice_get (is ++ js)) e ∙ get-behind is js b)
  | inr q ↦
      let e : p ≡ a = q.0 in
      let lt : a < length is = q.1 in
      let before : nat_lt p (length is) ≡ true = grind (arith, nat_tests) in
      rw before (ap (slice_get (is ++ js)) e ∙ get-before is js a lt)
]

further-of-both : (es : List BExpr) (t : Grid) (p : ℕ) (is js : List ℕ) (a b : ℕ) → OneOf p (length is) a b → further_at es t (slice_get (is ++ js) p) ≡ (if nat_lt p (length is) then further_at es t (slice_get is a) else further_at es t (slice_get js b))
further-of-both es t p is js a b h =
    let same = row-of-both p is js a b h in
    elim (cases_Bool (nat_lt p (length is))) [
      | inl y ↦ rw y (ap (further_at es t) (same ∙ rw y refl))
      | inr n ↦ rw n (ap (further_at es t) (same ∙ rw n refl))
    ]

-- What is kept of both.

pub call-is : (f : Aggregate) (args : List BExpr) (cs : List Column) → (call_over (f, args) cs).aggregate ≡ f
unfolding call_over call_of
call-is f args cs = refl

rows-long : (c : Aggregate × List BExpr) (t : Grid) (is : List ℕ) → length (args_at c t is) ≡ length is
unfolding args_at
rows-long c t is = length-map is (args_of c t)

rows-both : (c : Aggregate × List BExpr) (t : Grid) (is js : List ℕ) → args_at c t (is ++ js) ≡ args_at c t is ++ args_at c t js
unfolding args_at
rows-both c t is js = map-append (args_of c t) is js

pub best-further : (f : Aggregate) (args : List BExpr) → is_best f ≡ true → further_args (f, args) ≡ drop 1 args
unfolding further_args
best-further f args h = rw h refl

pub none-further : (f : Aggregate) (args : List BExpr) → is_best f ≡ false → further_args (f, args) ≡ []
unfolding further_args
none-further f args h = rw h refl

pub no-further : (t : Grid) (row : Option ℕ) → further_at [] t row ≡ []
unfolding further_at values_in
no-further t None = refl
no-further t (Some i) = refl

-- One call over two lists of rows.
module _ (f : Aggregate) (args : List BExpr) (t : Grid) (is js : List ℕ) where
  abbrev c : Aggregate × List BExpr
  c = (f, args)

  abbrev call : FoldCall
  call = call_over c t.columns

  abbrev of_first : Kept
  of_first = fold_of call (args_at c t is)

  abbrev of_second : Kept
  of_second = fold_of call (args_at c t js)

  abbrev place : ℕ
  place = place_in (with_fold of_first of_second).state

  abbrev furthers : ℕ → ℕ → List Value
  furthers p n = if nat_lt p n then further_at (further_args c) t (slice_get is (chosen_row call (args_at c t is))) else further_at (further_args c) t (slice_get js (chosen_row call (args_at c t js)))

  joins : All (IsRowOf call.kind) (args_at c t is) → All (IsRowOf call.kind) (args_at c t js) → fold_of call (args_at c t (is ++ js)) ≡ with_fold of_first of_second
  joins left right = ap (fold_of call) (rows-both c t is js) ∙ fold-joins call (args_at c t is) (args_at c t js) left right

  place-is : All (IsRowOf call.kind) (args_at c t is) → All (IsRowOf call.kind) (args_at c t js) → chosen_row call (args_at c t (is ++ js)) ≡ place
  place-is left right = sym (place-of-fold call (args_at c t (is ++ js)) (fold_of call (args_at c t (is ++ js))) refl) ∙ ap (λ (k : Kept). place_in k.state) (joins left right)

  best-joins : is_best f ≡ true → All (IsRowOf call.kind) (args_at c t is) → All (IsRowOf call.kind) (args_at c t js) → further_at (further_args c) t (slice_get (is ++ js) (chosen_row call (args_at c t (is ++ js)))) ≡ furthers place of_first.count
  best-joins h left right =
      let best : is_best call.aggregate ≡ true = ap is_best (call-is f args t.columns) ∙ h in
      let size : length (args_at c t is) ≡ length is = rows-long c t is in
      let at = subst (λ n. OneOf place n (chosen_row call (args_at c t is)) (chosen_row call (args_at c t js))) size (chosen-place call (args_at c t is) (args_at c t js) best) in
      ap (λ p. further_at (further_args c) t (slice_get (is ++ js) p)) (place-is left right)
      ∙ (further-of-both (further_args c) t place is js (chosen_row call (args_at c t is)) (chosen_row call (args_at c t js)) at
      ∙ ap (furthers place) (sym (fold-count call (args_at c t is) best ∙ size)))

  none-joins : is_best f ≡ false → further_at (further_args c) t (slice_get (is ++ js) (chosen_row call (args_at c t (is ++ js)))) ≡ furthers place of_first.count
  none-joins h =
      let none : (o : Option ℕ) → further_at (further_args c) t o ≡ [] = λ o. ap (λ (es : List BExpr). further_at es t o) (none-further f args h) ∙ no-further t o in
      elim (cases_Bool (nat_lt place of_first.count)) [
        | inl y ↦ rw y (none (slice_get (is ++ js) (chosen_row call (args_at c t (is ++ js)))) ∙ sym (none (slice_get is (chosen_row call (args_at c t is)))))
        | inr n ↦ rw n (none (slice_get (is ++ js) (chosen_row call (args_at c t (is ++ js)))) ∙ sym (none (slice_get js (chosen_row call (args_at c t js)))))
      ]

  further-joins : All (IsRowOf call.kind) (args_at c t is) → All (IsRowOf call.kind) (args_at c t js) → further_at (further_args c) t (slice_get (is ++ js) (chosen_row call (args_at c t (is ++ js)))) ≡ furthers place of_first.count
  further-joins left right = elim (cases_Bool (is_best f)) [
    | inl y ↦ best-joins y left right
    | inr n ↦ none-joins n
  ]

  pub states-join : All (IsRowOf call.kind) (args_at c t is) → All (IsRowOf call.kind) (args_at c t js) → state_at c t (is ++ js) ≡ with_kept (state_at c t is) (state_at c t js)
  unfolding state_at with_kept
  states-join left right = ap₂ (λ (k : Kept) (vs : List Value). record { kept = k; further = vs }) (joins left right) (further-joins left right)
