-- The carry of a range, row by row, and of two ranges.
use Rattle.std.proofs.Common.{◌≡◌, ◌<◌, ◌≤◌, ◌+◌, ◌-◌, ℕ, zero, suc, Bool, true, false, not, ℤ, List, [], ◌∷◌, ◌++◌, filter, length, refl, ap, ap₂, sym, ◌∙◌, subst, inl, inr, arith}
use Rattle.std.specs.Prelude.{◌||◌, fold, pos, ◌+ℤ◌}
use Rattle.std.specs.List.{list_any, range_with_len}
use Rattle.std.proofs.Math.IntN.{+ℤ_assoc}
use Rattle.std.proofs.lemmas.Bool.{cases_Bool}
use Rattle.std.proofs.lemmas.List.{length-append, map-id}
use Rattle.std.proofs.lemmas.List.Elements.{filter-append}
use Rattle.std.proofs.lemmas.List.Filters.{length-filter_both}
use Rattle.std.proofs.lemmas.List.Folds.{list_any-append}
use Rattle.std.proofs.lemmas.List.FromFn.{length-range_with_len, map-range_with_len_more}
use Rattle.std.proofs.lemmas.List.Sums.{fold-append}
use Rattle.kql_scalar.specs.Rows.{rows}
use Rattle.window_ops.specs.Carries.{Carried, carried, joined, last_run, no_rows, run_on, stepped}
use Rattle.window_ops.proofs.RangeFacts.{filter-range-same}

-- Ranges.

range-more : (a n j : ℕ) → a + n ≡ j → range_with_len a (n + 1) ≡ range_with_len a n ++ j ∷ []
range-more a n j is = sym (map-id (range_with_len a (n + 1))) ∙ (map-range_with_len_more (λ (x : ℕ). x) a n j is ∙ ap (λ xs. xs ++ j ∷ []) (map-id (range_with_len a n)))

pub rows-more : (from to : ℕ) → from ≤ to → rows from (to + 1) ≡ rows from to ++ to ∷ []
unfolding rows
rows-more from to l =
    let n : to + 1 - from ≡ (to - from) + 1 = omega (arith, l) in
    ap (range_with_len from) n ∙ range-more from (to - from) to (omega (arith, l))

pub rows-none : (from to : ℕ) → to ≤ from → rows from to ≡ []
unfolding rows
rows-none from to l = let n : to - from ≡ 0 = omega (arith, l) in ap (range_with_len from) n

-- Truths.

pub or-true : (b : Bool) → (b || true) ≡ true
or-true true = refl
or-true false = refl

pub or-false : (b : Bool) → (b || false) ≡ b
or-false true = refl
or-false false = refl

any-one : (p : ℕ → Bool) (i : ℕ) → list_any p (i ∷ []) ≡ p i
any-one p i = elim (cases_Bool (p i)) [
  | inl e ↦ rw e refl
  | inr e ↦ rw e refl
]

any-more : (p : ℕ → Bool) (from to : ℕ) → from ≤ to → list_any p (rows from (to + 1)) ≡ (list_any p (rows from to) || p to)
any-more p from to l =
    ap (list_any p) (rows-more from to l)
    ∙ (list_any-append p (rows from to) (to ∷ []) ∙ ap (λ b. list_any p (rows from to) || b) (any-one p to))

-- The last run.

filter-never : (xs : List ℕ) → filter (λ i. false) xs ≡ []
filter-never [] = refl
filter-never (x ∷ xs) = filter-never xs

filter-one : (p : ℕ → Bool) (i : ℕ) → p i ≡ true → filter p (i ∷ []) ≡ i ∷ []
filter-one p i e = rw e refl

abbrev is_last : (ℕ → Bool) → ℕ → ℕ → Bool
is_last begins to i = not (list_any begins (rows (i + 1) to))

end-is-last : (begins : ℕ → Bool) (to : ℕ) → is_last begins (to + 1) to ≡ true
end-is-last begins to = ap (λ xs. not (list_any begins xs)) (rows-none (to + 1) (to + 1) (omega arith))

last-more : (begins : ℕ → Bool) (from to : ℕ) → from ≤ to → last_run begins from (to + 1) ≡ filter (is_last begins (to + 1)) (rows from to) ++ to ∷ []
unfolding last_run
last-more begins from to l =
    ap (filter (is_last begins (to + 1))) (rows-more from to l)
    ∙ (filter-append (is_last begins (to + 1)) (rows from to) (to ∷ [])
    ∙ ap (λ xs. filter (is_last begins (to + 1)) (rows from to) ++ xs) (filter-one (is_last begins (to + 1)) to (end-is-last begins to)))

behind : (begins : ℕ → Bool) (to i : ℕ) (b : Bool) → i < to → begins to ≡ b → is_last begins (to + 1) i ≡ not (list_any begins (rows (i + 1) to) || b)
behind begins to i b lt e = ap not (any-more begins (i + 1) to (omega (arith, lt)) ∙ ap (λ c. list_any begins (rows (i + 1) to) || c) e)

pub last-anew : (begins : ℕ → Bool) (from to : ℕ) → from ≤ to → begins to ≡ true → last_run begins from (to + 1) ≡ to ∷ []
unfolding rows
last-anew begins from to l e =
    last-more begins from to l
    ∙ ap (λ xs. xs ++ to ∷ [])
    (filter-range-same (is_last begins (to + 1)) (λ i. false) from (to - from) (λ i lt. behind begins to i true (omega (arith, l, lt)) e ∙ ap not (or-true (list_any begins (rows (i + 1) to))))
    ∙ filter-never (rows from to))

pub last-on : (begins : ℕ → Bool) (from to : ℕ) → from ≤ to → begins to ≡ false → last_run begins from (to + 1) ≡ last_run begins from to ++ to ∷ []
unfolding last_run rows
last-on begins from to l e =
    last-more begins from to l
    ∙ ap (λ xs. xs ++ to ∷ [])
    (filter-range-same (is_last begins (to + 1)) (is_last begins to) from (to - from) (λ i lt. behind begins to i false (omega (arith, l, lt)) e ∙ ap not (or-false (list_any begins (rows (i + 1) to)))))

-- The carry, row by row.

abbrev pub made : Bool → ℤ → ℕ → Carried
made r s n = record { restarts = r; sum = s; count = n }

pub made-same : (q r : Bool) (s t : ℤ) (m n : ℕ) → q ≡ r → s ≡ t → m ≡ n → made q s m ≡ made r t n
made-same q r s t m n e f g = ap (λ x. made x s m) e ∙ (ap (λ y. made r y m) f ∙ ap (λ z. made r t z) g)

abbrev total : (ℕ → ℤ) → List ℕ → ℤ
total adds is = fold (λ n i. n +ℤ adds i) (pos 0) is

total-more : (adds : ℕ → ℤ) (is : List ℕ) (i : ℕ) → total adds (is ++ i ∷ []) ≡ total adds is +ℤ adds i
total-more adds is i = fold-append (λ n i. n +ℤ adds i) (pos 0) is (i ∷ [])

length-more : (is : List ℕ) (i : ℕ) → length (is ++ i ∷ []) ≡ length is + 1
length-more is i = length-append is (i ∷ [])

pub carried-none : (begins : ℕ → Bool) (adds : ℕ → ℤ) (from to : ℕ) → to ≤ from → carried begins adds from to ≡ no_rows
unfolding carried last_run
carried-none begins adds from to l =
    let none = rows-none from to l in
    rw none refl

pub carried-more : (begins : ℕ → Bool) (adds : ℕ → ℤ) (from to : ℕ) → from ≤ to → carried begins adds from (to + 1) ≡ stepped (begins to) (adds to) (carried begins adds from to)
unfolding carried stepped
carried-more begins adds from to l = elim (cases_Bool (begins to)) [
  | inl e ↦
      made-same _ _ _ _ _ _ (any-more begins from to l)
      (ap (total adds) (last-anew begins from to l e) ∙ rw e refl)
      (ap length (last-anew begins from to l e) ∙ rw e refl)
  | inr e ↦
      made-same _ _ _ _ _ _ (any-more begins from to l)
      (ap (total adds) (last-on begins from to l e) ∙ (total-more adds (last_run begins from to) to ∙ rw e refl))
      (ap length (last-on begins from to l e) ∙ (length-more (last_run begins from to) to ∙ rw e refl))
]

-- The carry of two ranges.

join-step : (a c : Carried) (b : Bool) (n : ℤ) → joined a (stepped b n c) ≡ stepped b n (joined a c)
unfolding joined stepped
join-step a c true n = elim (cases_Bool c.restarts) [
  | inl e ↦ rw e refl
  | inr e ↦ rw e (made-same _ _ _ _ _ _ (sym (or-true a.restarts)) refl refl)
]
join-step a c false n = elim (cases_Bool c.restarts) [
  | inl e ↦ rw e refl
  | inr e ↦ rw e (made-same _ _ _ _ _ _ (sym (or-false a.restarts)) (sym (+ℤ_assoc a.sum c.sum n)) (omega arith))
]

join-none : (a : Carried) → joined a (no_rows) ≡ a
unfolding joined
join-none a = made-same _ a.restarts _ a.sum _ a.count refl (grind arith) (omega arith)

join-upto : (begins : ℕ → Bool) (adds : ℕ → ℤ) (i j n : ℕ) → i ≤ j → joined (carried begins adds i j) (carried begins adds j (j + n)) ≡ carried begins adds i (j + n)
join-upto begins adds i j zero l =
    let same : j + 0 ≡ j = omega arith in
    subst (λ k. joined (carried begins adds i j) (carried begins adds j k) ≡ carried begins adds i k) (sym same)
    (ap (joined (carried begins adds i j)) (carried-none begins adds j j (omega arith)) ∙ join-none (carried begins adds i j))
join-upto begins adds i j (suc n) l =
    let next : j + suc n ≡ (j + n) + 1 = omega arith in
    rw next
    (ap (joined (carried begins adds i j)) (carried-more begins adds j (j + n) (omega arith))
    ∙ (join-step (carried begins adds i j) (carried begins adds j (j + n)) (begins (j + n)) (adds (j + n))
    ∙ (ap (stepped (begins (j + n)) (adds (j + n))) (join-upto begins adds i j n l)
    ∙ sym (carried-more begins adds i (j + n) (omega (arith, l))))))

pub carried-joined : (begins : ℕ → Bool) (adds : ℕ → ℤ) (i j k : ℕ) → i ≤ j → j ≤ k → joined (carried begins adds i j) (carried begins adds j k) ≡ carried begins adds i k
carried-joined begins adds i j k l m =
    let end : j + (k - j) ≡ k = omega (arith, m) in
    subst (λ e. joined (carried begins adds i j) (carried begins adds j e) ≡ carried begins adds i e) end (join-upto begins adds i j (k - j) l)

-- So many rows more.

pub run-on-next : (begins : ℕ → Bool) (adds : ℕ → ℤ) (c : Carried) (i : ℕ) → run_on begins adds c (i + 1) ≡ stepped (begins i) (adds i) (run_on begins adds c i)
unfolding run_on
run-on-next begins adds c i = let one : i + 1 ≡ suc i = omega arith in rw one refl

pub run-on-same : (b d : ℕ → Bool) (f g : ℕ → ℤ) (c : Carried) (n i : ℕ) → ((k : ℕ) → k < n → b k ≡ d k) → ((k : ℕ) → k < n → f k ≡ g k) → i ≤ n → run_on b f c i ≡ run_on d g c i
unfolding run_on
run-on-same b d f g c n zero h k l = refl
run-on-same b d f g c n (suc i) h k l =
    ap₂ (λ (x : Bool) (y : ℤ). stepped x y (run_on b f c i)) (h i (omega (arith, l))) (k i (omega (arith, l)))
    ∙ ap (stepped (d i) (g i)) (run-on-same b d f g c n i h k (omega (arith, l)))

pub run-on-carried : (begins : ℕ → Bool) (adds : ℕ → ℤ) (start from n : ℕ) → start ≤ from → run_on (λ k. begins (from + k)) (λ k. adds (from + k)) (carried begins adds start from) n ≡ carried begins adds start (from + n)
unfolding run_on
run-on-carried begins adds start from zero l = let same : from ≡ from + 0 = omega arith in ap (carried begins adds start) same
run-on-carried begins adds start from (suc n) l =
    let next : (from + n) + 1 ≡ from + suc n = omega arith in
    ap (stepped (begins (from + n)) (adds (from + n))) (run-on-carried begins adds start from n l)
    ∙ (sym (carried-more begins adds start (from + n) (omega (arith, l)))
    ∙ ap (carried begins adds start) next)

-- A carry counts rows of its range.

few-filtered : (p : ℕ → Bool) (xs : List ℕ) → length (filter p xs) ≤ length xs
few-filtered p xs = let e = length-filter_both p (λ x. not (p x)) (λ x. refl) xs in omega (arith, e)

pub carried-few : (begins : ℕ → Bool) (adds : ℕ → ℤ) (from to : ℕ) → (carried begins adds from to).count ≤ to - from
unfolding carried last_run rows
carried-few begins adds from to =
    let l = few-filtered (λ i. not (list_any begins (rows (i + 1) to))) (range_with_len from (to - from)) in
    let n = length-range_with_len from (to - from) in
    omega (arith, l, n)

pub run-on-few : (begins : ℕ → Bool) (adds : ℕ → ℤ) (c : Carried) (i : ℕ) → (run_on begins adds c i).count ≤ c.count + i
unfolding run_on stepped
run-on-few begins adds c zero = omega arith
run-on-few begins adds c (suc i) = elim (cases_Bool (begins i)) [
  | inl e ↦ rw e (omega arith)
  | inr e ↦ rw e (let l = run-on-few begins adds c i in omega (arith, l))
]

-- From the first row on: the sum and the number of the rows from the last one at which a run begins.

pub run-on-all : (begins : ℕ → Bool) (adds : ℕ → ℤ) (n : ℕ) → run_on begins adds no_rows n ≡ carried begins adds 0 n
unfolding run_on
run-on-all begins adds zero = sym (carried-none begins adds 0 0 (omega arith))
run-on-all begins adds (suc n) =
    let next : n + 1 ≡ suc n = omega arith in
    ap (stepped (begins n) (adds n)) (run-on-all begins adds n)
    ∙ (sym (carried-more begins adds 0 n (omega arith)) ∙ ap (carried begins adds 0) next)
