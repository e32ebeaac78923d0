-- Lists of keys, each once.
use Rattle.std.proofs.Common.{◌≡◌, ◌<◌, ◌≤◌, ◌||◌, ◌++◌, ℕ, Bool, true, false, not, List, [], ◌∷◌, drop, filter, length, map, refl, ap, ap₂, sym, ◌∙◌, subst, inl, inr, arith}
use Rattle.std.specs.Prelude.{⊤}
use Rattle.std.specs.Bool.{Decides, one_answer}
use Rattle.std.specs.List.{list_any, position_or_len}
use Rattle.std.proofs.lemmas.Bool.{cases_Bool}
use Rattle.std.proofs.lemmas.List.Elements.{filter-append}
use Rattle.std.proofs.lemmas.Map.Views.{any-filter_same}
use Rattle.kql_keys.specs.Numbers.{distinct, numbers_of}
use Rattle.kql_keys.proofs.NumberFacts.{any-distinct, position-more}

pub or-none : (a b : Bool) → (a || b) ≡ false → (a ≡ false) × (b ≡ false)
or-none true b e = cc
or-none false b e = (refl, e)

-- Whether a key is not among these.
abbrev pub absent : {K : Type 0} → (K → K → Bool) → List K → K → Bool
absent same ks k = not (list_any (same k) ks)

-- Each key differs from those behind it.
abbrev pub Distinct : {K : Type 0} → (K → K → Bool) → List K → Type 0
Distinct same [] = ⊤
Distinct same (x ∷ xs) = (list_any (same x) xs ≡ false) × Distinct same xs

-- The number of a key among two lists of distinct keys.
abbrev pub number_among : {K : Type 0} → (K → K → Bool) → List K → List K → K → ℕ
number_among same a b k = position_or_len (same k) (distinct same (a ++ b))

module _ {K : Type 0} (same : K → K → Bool) (says : (a b : K) → Decides (same a b) (a ≡ b)) where
  pub turned : (a b : K) → same a b ≡ same b a
  turned a b = one_answer (same a b) (same b a) (says a b) (λ e. sym ((says b a).0 e), λ p. (says b a).1 (sym p))

  any-filter-none : (t p : K → Bool) (l : List K) → list_any t l ≡ false → list_any t (filter p l) ≡ false
  any-filter-none t p [] e = refl
  any-filter-none t p (x ∷ l) e =
      let q = or-none (t x) (list_any t l) e in
      let rest = any-filter-none t p l q.1 in
      elim (cases_Bool (p x)) [ inl y ↦ rw (y, q.0) rest | inr n ↦ rw n rest ]

  filter-distinct : (p : K → Bool) (l : List K) → Distinct same l → Distinct same (filter p l)
  filter-distinct p [] d = tt
  filter-distinct p (x ∷ l) d = elim (cases_Bool (p x)) [
    | inl y ↦ rw y (any-filter-none (same x) p l d.0, filter-distinct p l d.1)
    | inr n ↦ rw n (filter-distinct p l d.1)
  ]

  pub distinct-distinct : (ks : List K) → Distinct same (distinct same ks)
  distinct-distinct [] = tt
  distinct-distinct (x ∷ ks) =
      (any-filter_same (same x) (λ j. not (same x j)) false (λ j e. rw e refl) (distinct same ks), filter-distinct (λ j. not (same x j)) (distinct same ks) (distinct-distinct ks))

  -- All but one that is not there are all.
  filter-others : (x : K) (l : List K) → list_any (same x) l ≡ false → filter (λ j. not (same x j)) l ≡ l
  filter-others x [] e = refl
  filter-others x (k ∷ l) e = let q = or-none (same x k) (list_any (same x) l) e in rw (q.0) (ap (λ (ks : List K). k ∷ ks) (filter-others x l q.1))

  pub distinct-once : (l : List K) → Distinct same l → distinct same l ≡ l
  distinct-once [] d = refl
  distinct-once (x ∷ l) d = ap (λ (ks : List K). x ∷ ks) (ap (filter (λ j. not (same x j))) (distinct-once l d.1) ∙ filter-others x l d.0)

  -- Distinct same keys of two lists.

  filter-true : (l : List K) → filter (λ j. true) l ≡ l
  filter-true [] = refl
  filter-true (k ∷ l) = ap (λ (ks : List K). k ∷ ks) (filter-true l)

  absent-more : (x : K) (xs l : List K) → filter (λ j. not (same x j)) (filter (absent same xs) l) ≡ filter (absent same (x ∷ xs)) l
  absent-more x xs [] = refl
  absent-more x xs (k ∷ l) =
      let rest = absent-more x xs l in
      let back = turned x k in
      elim (cases_Bool (list_any (same k) xs)) [
        | inl t ↦ elim (cases_Bool (same k x)) [ inl s ↦ rw (t, s) rest | inr n ↦ rw (t, n) rest ]
        | inr f ↦ elim (cases_Bool (same k x)) [
          | inl s ↦ let u : same x k ≡ true = back ∙ s in rw (f, s, u) rest
          | inr n ↦ let u : same x k ≡ false = back ∙ n in rw (f, n, u) (ap (λ (ks : List K). k ∷ ks) rest)
        ]
      ]

  pub distinct-append : (xs ys : List K) → distinct same (xs ++ ys) ≡ distinct same xs ++ filter (absent same xs) (distinct same ys)
  distinct-append [] ys = sym (filter-true (distinct same ys))
  distinct-append (x ∷ xs) ys =
      let p = λ (j : K). not (same x j) in
      ap (λ (ks : List K). x ∷ ks)
      (ap (filter p) (distinct-append xs ys)
      ∙ (filter-append p (distinct same xs) (filter (absent same xs) (distinct same ys))
      ∙ ap (λ (ks : List K). filter p (distinct same xs) ++ ks) (absent-more x xs (distinct same ys))))

  filter-same : (p q : K → Bool) (l : List K) → ((k : K) → p k ≡ q k) → filter p l ≡ filter q l
  filter-same p q [] h = refl
  filter-same p q (k ∷ l) h =
      let rest = filter-same p q l h in
      elim (cases_Bool (q k)) [
        | inl t ↦ let s : p k ≡ true = h k ∙ t in rw (s, t) (ap (λ (ks : List K). k ∷ ks) rest)
        | inr n ↦ let s : p k ≡ false = h k ∙ n in rw (s, n) rest
      ]

  -- The distinct keys of two lists of distinct keys are those of the lists.
  pub distinct-twice : (us vs : List K) → distinct same (distinct same us ++ distinct same vs) ≡ distinct same (us ++ vs)
  distinct-twice us vs =
      let a = distinct same us in
      let b = distinct same vs in
      distinct-append a b
      ∙ (ap₂ (λ (xs ys : List K). xs ++ filter (absent same a) ys) (distinct-once a (distinct-distinct us)) (distinct-once b (distinct-distinct vs))
      ∙ (ap (λ (ks : List K). a ++ ks) (filter-same (absent same a) (absent same us) b (λ k. ap not (any-distinct same says k us)))
      ∙ sym (distinct-append us vs)))

  pub distinct-both : (a b : List K) → Distinct same a → Distinct same b → distinct same (a ++ b) ≡ a ++ filter (absent same a) b
  distinct-both a b d e =
      distinct-append a b ∙ ap₂ (λ (xs ys : List K). xs ++ filter (absent same a) ys) (distinct-once a d) (distinct-once b e)

  -- Places among keys.

  pub position-low : (p : K → Bool) (l : List K) → list_any p l ≡ true → position_or_len p l < length l
  position-low p [] e = cc
  position-low p (x ∷ l) e = elim (cases_Bool (p x)) [
    | inl t ↦ rw t (omega arith)
    | inr f ↦ let low = position-low p l (rw f at e) in rw f (omega (arith, low))
  ]

  pub position-high : (p : K → Bool) (l more : List K) → list_any p l ≡ false → length l ≤ position_or_len p (l ++ more)
  position-high p [] more e = omega arith
  position-high p (x ∷ l) more e =
      let q = or-none (p x) (list_any p l) e in
      let high = position-high p l more q.1 in
      rw (q.0) (omega (arith, high))

  drop-front : {X : Type 0} (f : K → X) (a b : List K) → drop (length a) (map f (a ++ b)) ≡ map f b
  drop-front f [] b = refl
  drop-front f (x ∷ a) b = drop-front f a b

  pub further-are : (a b : List K) → drop (length a) (numbers_of same (a ++ b)) ≡ map (number_among same a b) b
  unfolding numbers_of
  further-are a b = drop-front (number_among same a b) a b

  pub number-known : (a b : List K) (k : K) → Distinct same a → Distinct same b → list_any (same k) a ≡ true → number_among same a b k ≡ position_or_len (same k) a
  number-known a b k d e t = ap (position_or_len (same k)) (distinct-both a b d e) ∙ position-more (same k) a (filter (absent same a) b) t

  pub number-new : (a b : List K) (k : K) → Distinct same a → Distinct same b → list_any (same k) a ≡ false → length a ≤ number_among same a b k
  number-new a b k d e t = subst (λ (ks : List K). length a ≤ position_or_len (same k) ks) (sym (distinct-both a b d e)) (position-high (same k) a (filter (absent same a) b) t)
