-- The names of the columns of a join.
use Rattle.std.proofs.Common.{◌≡◌, ◌≢◌, ◌<◌, ◌≤◌, ◌+◌, ◌^◌, ◌⊎◌, ◌++◌, ◌∷◌, ℕ, zero, suc, Bool, true, false, not, List, [], map, length, filter, refl, sym, subst, ap, ◌∙◌, append-nil, append_assoc, arith, inl, inr}
use Rattle.std.specs.Prelude.{AllPairs, None, Some, bytes_eq, decimal, find}
use Rattle.std.specs.List.{AllByRecursion, range_with_len}
use Rattle.std.proofs.Math.Nat.{eq-or-lt_of_le}
use Rattle.std.proofs.lemmas.Bool.{cases_Bool}
use Rattle.std.proofs.lemmas.Fmt.{decimal_injective}
use Rattle.std.proofs.lemmas.List.{append_cancel_left, length-append, length-map, map-append}
use Rattle.std.proofs.lemmas.List.FromFn.{length-map-range_with_len}
use Rattle.std.proofs.lemmas.Slice.Eq.{bytes_eq-Decides}
use Rattle.kql_cells.specs.declared.schema.Column.{Column}
use Rattle.kql_bound.specs.declared.parts.JoinPlan.{JoinPlan}
use Rattle.kql_bound.specs.declared.parts.OnPair.{OnPair}
use Rattle.kql_meaning.specs.Items.{without}
use Rattle.kql_meaning.specs.Join.{both_columns, first_free, free_name, numbered_names, renamed, shown_columns}
use Rattle.kql_meaning.specs.LawsOfNames.{BothNamesDiffer, NameIsFirstFree, NameIsFree, RightKindsStay}
use Rattle.kql_meaning.specs.Tables.{is_name_among, names_of}
use Rattle.kql_meaning.proofs.FirstLaws.{any-at, one-of-any}
use Rattle.kql_meaning.proofs.MemberLaws.{Member, Pairwise, member-of-map, member-of-range, of-member, pairs-of, pairwise-append}
use Rattle.kql_meaning.proofs.SortLaws.{every-from}

-- A list without one of its elements: one shorter, with all others.
without-one : {X : Type 0} (z : X) (ys : List X) → Member z ys → (zs : List X) × (length ys ≡ suc (length zs)) × ((w : X) → Member w ys → w ≢ z → Member w zs)
without-one z [] m = absurd m
without-one z (y ∷ ys) (inl e) = (ys, refl, λ w m n. elim m [ inl s ↦ absurd (n (sym s ∙ e)) | inr r ↦ r ])
without-one z (y ∷ ys) (inr m) =
    let q = without-one z ys m in
    (y ∷ q.0, ap suc q.1, λ w k n. elim k [ inl s ↦ inl s | inr r ↦ inr (q.2 w r n) ])

-- Elements that differ, all in a list, are no more than it has.
no-more : {X : Type 0} (xs ys : List X) → Pairwise (λ x y. x ≢ y) xs → ((x : X) → Member x xs → Member x ys) → length xs ≤ length ys
no-more [] ys h there = omega arith
no-more (x ∷ xs) ys h there =
    let q = without-one x ys (there x (inl refl)) in
    let rest = no-more xs q.0 h.1 (λ w m. q.2 w (there w (inr m)) (λ e. of-member (λ y. x ≢ y) xs w h.0 m (sym e))) in
    omega (arith, q.1, rest)

-- Names.

among-member : (names : List (List ℕ)) (n : List ℕ) → is_name_among names n ≡ true → Member n names
unfolding is_name_among
among-member names n e = let q = one-of-any (λ m. bytes_eq m n) names e in subst (λ m. Member m names) ((bytes_eq-Decides q.0 n).0 q.2) q.1

member-among : (names : List (List ℕ)) (n : List ℕ) → Member n names → is_name_among names n ≡ true
unfolding is_name_among
member-among names n m = any-at (λ k. bytes_eq k n) names n m ((bytes_eq-Decides n n).1 refl)

numbered : List ℕ → ℕ → List ℕ
numbered name n = name ++ decimal n

numbered-differ : (name : List ℕ) (a n : ℕ) → a + n ≤ 2 ^ 64 → Pairwise (λ x y. x ≢ y) (map (numbered name) (range_with_len a n))
unfolding numbered
numbered-differ name a zero h = tt
numbered-differ name a (suc n) h =
    (apart (a + 1) n (omega arith) (omega arith), numbered-differ name (a + 1) n (omega arith))
  where
    apart : (b m : ℕ) → a < b → b + m ≤ 2 ^ 64 → AllByRecursion (λ y. numbered name a ≢ y) (map (numbered name) (range_with_len b m))
    apart b zero lt within = tt
    apart b (suc m) lt within = (
      λ e. let same = decimal_injective a b (omega arith) (omega arith) (append_cancel_left name (decimal a) (decimal b) e) in absurd (omega (arith, same)),
      apart (b + 1) m (omega arith) (omega arith),
    )

above-or-same : (p : List ℕ → Bool) (f : ℕ → List ℕ) (a m : ℕ) → (a ≡ m) ⊎ (a < m) → p (f a) ≡ false → (a + 1 ≤ m → p (f m) ≡ false) → p (f m) ≡ false
above-or-same p f a m (inl e) fails above = subst (λ k. p (f k) ≡ false) e fails
above-or-same p f a m (inr l) fails above = above (omega (arith, l))

-- The first of numbers from one on at which a test passes, where one passes.
first-number : (p : List ℕ → Bool) (f : ℕ → List ℕ) (a n : ℕ) → ((find p (map f (range_with_len a n)) ≡ None) × ((m : ℕ) → a ≤ m → m < a + n → p (f m) ≡ false)) ⊎ ((k : ℕ) × (a ≤ k) × (find p (map f (range_with_len a n)) ≡ Some (f k)) × (p (f k) ≡ true) × ((m : ℕ) → a ≤ m → m < k → p (f m) ≡ false))
first-number p f a zero = inl (refl, λ m low high. absurd (omega arith))
first-number p f a (suc n) = elim (cases_Bool (p (f a))) [
  | inl t ↦ inr (a, omega arith, rw t refl, t, λ m low high. absurd (omega arith))
  | inr fails ↦ elim (first-number p f (a + 1) n) [
    | inl q ↦ inl (rw fails q.0, λ m low high. above-or-same p f a m (eq-or-lt_of_le low) fails (λ above. q.1 m above (omega arith)))
    | inr q ↦ inr (q.0, omega (arith, q.1), rw fails q.2, q.3, λ m low high. above-or-same p f a m (eq-or-lt_of_le low) fails (λ above. q.4 m above high))
  ]
]

free : List (List ℕ) → List ℕ → Bool
free taken n = not (is_name_among taken n)

is-among : (b : Bool) → not b ≡ false → b ≡ true
is-among true e = refl
is-among false e = cc

is-not-among : (b : Bool) → not b ≡ true → b ≡ false
is-not-among true e = cc
is-not-among false e = refl

-- The number at the end of a free name.
abbrev FreeNumber : List (List ℕ) → List ℕ → Type 0
FreeNumber taken name = (k : ℕ) × (1 ≤ k) × (find (free taken) (map (numbered name) (range_with_len 1 (suc (length taken)))) ≡ Some (numbered name k)) × (free taken (numbered name k) ≡ true) × ((m : ℕ) → 1 ≤ m → m < k → free taken (numbered name m) ≡ false)

all-taken : (taken : List (List ℕ)) (name : List ℕ) (n : ℕ) → ((m : ℕ) → 1 ≤ m → m < 1 + n → free taken (numbered name m) ≡ false) → (x : List ℕ) → Member x (map (numbered name) (range_with_len 1 n)) → Member x taken
unfolding free
all-taken taken name n h x m =
    let q = member-of-map (numbered name) (range_with_len 1 n) x m in
    let r = member-of-range 1 n q.0 q.1 in
    subst (λ y. Member y taken) q.2 (among-member taken (numbered name q.0) (is-among (is_name_among taken (numbered name q.0)) (h q.0 r.0 r.1)))

free-number : (taken : List (List ℕ)) (name : List ℕ) → length taken < 2 ^ 63 → FreeNumber taken name
free-number taken name small = elim (first-number (free taken) (numbered name) 1 (suc (length taken))) [
  | inl q ↦
      let names = map (numbered name) (range_with_len 1 (suc (length taken))) in
      let all = no-more names taken (numbered-differ name 1 (suc (length taken)) (omega arith)) (λ x m. all-taken taken name (suc (length taken)) q.1 x m) in
      absurd (omega (arith, all, length-map-range_with_len (numbered name) 1 (suc (length taken))))
  | inr q ↦ q
]

name-kept : (taken : List (List ℕ)) (name : List ℕ) → is_name_among taken name ≡ false → free_name taken name ≡ name
unfolding free_name
name-kept taken name n = rw n refl

name-found : (taken : List (List ℕ)) (name found : List ℕ) → is_name_among taken name ≡ true → find (free taken) (map (numbered name) (range_with_len 1 (suc (length taken)))) ≡ Some found → free_name taken name ≡ found
unfolding free_name first_free numbered_names numbered free
name-found taken name found t e = rw (t, e) refl

pub name_is_free : NameIsFree
unfolding free
name_is_free taken name small = elim (cases_Bool (is_name_among taken name)) [
  | inl t ↦
      let q = free-number taken name small in
      rw (name-found taken name (numbered name q.0) t q.2) (is-not-among (is_name_among taken (numbered name q.0)) q.3)
  | inr n ↦ rw (name-kept taken name n) n
]

pub name_is_first_free : NameIsFirstFree
unfolding numbered free
name_is_first_free taken name small = elim (cases_Bool (is_name_among taken name)) [
  | inl t ↦
      let q = free-number taken name small in
      inr (t, (q.0, omega (arith, q.1), name-found taken name (numbered name q.0) t q.2, λ m low high. is-among (is_name_among taken (name ++ decimal m)) (q.4 m (omega arith) high)))
  | inr n ↦ inl (n, name-kept taken name n)
]

-- All names of the result.

pairwise-of : {X : Type 0} (R : X → X → Type 0) (xs : List X) → AllPairs R xs → Pairwise R xs
pairwise-of R [] h = tt
pairwise-of R (x ∷ xs) h =
    (every-from (R x) xs (λ k d lt. h 0 (suc k) d (omega arith) (omega arith)), pairwise-of R xs (λ i j d lt in_range. h (suc i) (suc j) d (omega arith) (omega arith)))

Different : List ℕ → List ℕ → Type 0
Different m n = m ≢ n

with-free : (taken : List (List ℕ)) (name : List ℕ) → length taken < 2 ^ 63 → Pairwise Different taken → Pairwise Different (taken ++ free_name taken name ∷ [])
unfolding Different
with-free taken name small h =
    let new = free_name taken name in
    pairwise-append Different taken (new ∷ []) h (tt, tt)
    (λ x y m n e. elim n [
      | inl s ↦ let c : false ≡ true = sym (name_is_free taken name small) ∙ member-among taken new (subst (λ z. Member z taken) (e ∙ sym s) m) in cc
      | inr r ↦ absurd r
    ])

all-differ : (taken : List (List ℕ)) (columns : List Column) → length taken + length columns < 2 ^ 63 → Pairwise Different taken → Pairwise Different (taken ++ names_of (renamed taken columns))
unfolding renamed names_of
all-differ taken [] small h = rw (append-nil taken) h
all-differ taken (c ∷ cs) small h =
    let new = free_name taken c.name in
    let longer : length (taken ++ new ∷ []) ≡ length taken + 1 = length-append taken (new ∷ []) in
    let rest = all-differ (taken ++ new ∷ []) cs (omega (arith, longer, small)) (with-free taken c.name (omega (arith, small)) h) in
    subst (Pairwise Different) (append_assoc taken (new ∷ []) (names_of (renamed (taken ++ new ∷ []) cs))) rest

fewer : {X : Type 0} (p : X → Bool) (xs : List X) → length (filter p xs) ≤ length xs
fewer p [] = omega arith
fewer p (x ∷ xs) = elim (cases_Bool (p x)) [
  | inl t ↦ rw t (omega (arith, fewer p xs))
  | inr n ↦ rw n (omega (arith, fewer p xs))
]

shown-fewer : (j : JoinPlan) (columns : List Column) → length (shown_columns j columns) ≤ length columns
unfolding shown_columns without
shown-fewer j columns = elim (cases_Bool j.lookup) [
  | inl t ↦ rw t (fewer (λ (c : Column). not (is_name_among (map (λ (pair : OnPair). pair.right) j.on) c.name)) columns)
  | inr n ↦ rw n (omega arith)
]

pub both_names_differ : BothNamesDiffer
unfolding both_columns names_of Different
both_names_differ j left right h small =
    let taken = map (λ (c : Column). c.name) left in
    let shown = shown_columns j right in
    let same : length taken ≡ length left = length-map left (λ (c : Column). c.name) in
    let all = all-differ taken shown (omega (arith, same, small, shown-fewer j right)) (pairwise-of (λ m n. m ≢ n) taken h) in
    rw (map-append (λ (c : Column). c.name) left (renamed taken shown)) (pairs-of (λ m n. m ≢ n) (taken ++ map (λ (c : Column). c.name) (renamed taken shown)) all)

pub right_kinds_stay : RightKindsStay
unfolding renamed
right_kinds_stay taken [] = refl
right_kinds_stay taken (c ∷ cs) = ap (λ ks. c.kind ∷ ks) (right_kinds_stay (taken ++ free_name taken c.name ∷ []) cs)

pub ruleset name_laws = (name_is_free, name_is_first_free, both_names_differ, right_kinds_stay)
