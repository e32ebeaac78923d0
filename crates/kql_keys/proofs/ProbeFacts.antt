-- What a probe finds.
use Rattle.std.proofs.Common.{◌≡◌, ◌<◌, ◌+◌, ◌==◌, ◌++◌, ◌∷◌, ◌∙◌, ℕ, zero, suc, Bool, true, false, List, [], map, flat_map, take, length, get_or, refl, sym, ap, inl, inr, arith}
use Rattle.std.specs.Prelude.{Some}
use Rattle.std.specs.Bool.{Decides}
use Rattle.std.specs.List.{list_any, position, position_or_len, range_with_len}
use Rattle.std.proofs.lemmas.Bool.{cases_Bool, eqb-true, eq-eqb}
use Rattle.std.proofs.lemmas.List.{append-nil, map-append, take_more}
use Rattle.std.proofs.lemmas.List.Concat.{flat_map-append}
use Rattle.std.proofs.lemmas.List.Folds.{list_any-append, list_any_at}
use Rattle.std.proofs.lemmas.List.FromFn.{get_or-map-range_with_len, length-map-range_with_len}
use Rattle.std.proofs.lemmas.List.Quantifiers.{position-Some}
use Rattle.std.proofs.lemmas.List.Sums.{passes_at_first, position_or_len_is}
use Rattle.kql_cells.specs.declared.value.Value.{Value}
use Rattle.kql_cells.specs.declared.value.Value.TheVariants as val
use Rattle.kql_values.specs.Grids.{row_of}
use Rattle.kql_keys.specs.Matches.{has_null, keys_match, matches_in, pairs_of}
use Rattle.kql_keys.specs.Numbers.{distinct, numbers_of, places_from}
use Rattle.kql_keys.specs.Places.{places_by, places_of}
use Rattle.kql_cells.specs.Keys.{is_null, same_keys, same_keys-decides}
use Rattle.kql_keys.proofs.NumberFacts.{any-distinct}
use Rattle.kql_keys.proofs.NumberLaws.{places-agree, places-map, places-none, range-suc}

-- one more cell
pub null-more : (key : List Value) (j : ℕ) → j < length key → has_null (take j key) ≡ false → is_null (get_or key j val.Null) ≡ false → has_null (take (j + 1) key) ≡ false
unfolding has_null
null-more key j lt none here = rw (take_more key j val.Null lt, list_any-append is_null (take j key) (get_or key j val.Null ∷ []), none, here) refl

pub null-found : (key : List Value) (j : ℕ) → j < length key → is_null (get_or key j val.Null) ≡ true → has_null key ≡ true
unfolding has_null
null-found key j lt here = list_any_at is_null key j val.Null lt here

pub null-none : has_null [] ≡ false
unfolding has_null
null-none = refl

module _ {K : Type 0} (same : K → K → Bool) (says : (a b : K) → Decides (same a b) (a ≡ b)) where
  -- the rows that have the number of a key are those of the key
  pub number-at : (F : List K) (k j : K) (g : ℕ) → g < length F → same k (get_or F g k) ≡ true → position_or_len (same k) F ≡ g → (position_or_len (same j) F == g) ≡ same k j
  number-at F k j g gl at p =
      let kept : k ≡ get_or F g k = (says k (get_or F g k)).0 at in
      elim (cases_Bool (same k j)) [
        | inl t ↦
            let q : k ≡ j = (says k j).0 t in
            rw (t, ← q) (eq-eqb (position_or_len (same k) F) g p)
        | inr f ↦ elim (cases_Bool (position_or_len (same j) F == g)) [
          | inl t ↦
              let here : position_or_len (same j) F ≡ g = eqb-true _ g t in
              let inside : position_or_len (same j) F < length F = omega (arith, here, gl) in
              let found = rw here at (passes_at_first (same j) F k inside) in
              let q : j ≡ get_or F g k = (says j (get_or F g k)).0 found in
              let r : same k j ≡ true = (says k j).1 (kept ∙ sym q) in
              absurd (cc (r, f))
          | inr n ↦ n ∙ sym f
        ]
      ]

  number-is : (F : List K) (k j : K) (g : ℕ) → position (same k) F ≡ Some g → (position_or_len (same j) F == g) ≡ same k j
  number-is F k j g e =
      let at = position-Some (same k) F g k e in
      number-at F k j g at.0 at.1 (position_or_len_is (same k) F g k (omega (arith, at.0)) at.2 (λ lt. at.1))

  pub group-is : (ks : List K) (k : K) (g : ℕ) → position (same k) (distinct same ks) ≡ Some g → places_of (numbers_of same ks) g ≡ places_from 0 (same k) ks
  unfolding numbers_of places_of
  group-is ks k g e =
      places-map (λ j. position_or_len (same j) (distinct same ks)) 0 (λ x. x == g) ks
      ∙ places-agree 0 (λ j. position_or_len (same j) (distinct same ks) == g) (same k) (λ j. number-is (distinct same ks) k j g e) ks

  position-low : (p : K → Bool) (F : List K) → list_any p F ≡ true → position_or_len p F < length F
  position-low p [] e = cc
  position-low p (x ∷ F) e = elim (cases_Bool (p x)) [
    | inl t ↦ rw t (omega arith)
    | inr f ↦ let less = position-low p F (rw f at e) in rw f (omega (arith, less))
  ]

  low : (F js : List K) → ((x : K) → list_any (same x) js ≡ true → list_any (same x) F ≡ true)
      → (k d : ℕ) → k < length (map (λ j. position_or_len (same j) F) js) → get_or (map (λ j. position_or_len (same j) F) js) k d < length F
  low F [] sub k d lt = absurd (omega arith)
  low F (j ∷ js) sub zero d lt =
      let here : list_any (same j) (j ∷ js) ≡ true = rw ((says j j).1 refl) refl in
      position-low (same j) F (sub j here)
  low F (j ∷ js) sub (suc k) d lt = low F js (λ x e. sub x (elim (cases_Bool (same x j)) [ inl t ↦ rw t refl | inr f ↦ rw f e ])) k d (omega arith)

  -- each number is that of a distinct key
  pub numbers-low : (ks : List K) (k d : ℕ) → k < length (numbers_of same ks) → get_or (numbers_of same ks) k d < length (distinct same ks)
  unfolding numbers_of
  numbers-low ks = low (distinct same ks) ks (λ x e. any-distinct same says x ks ∙ e)

pub found-some : (ks keys : List (List Value)) (k : List Value) (lists : List (List ℕ)) (g : ℕ) → keys ≡ distinct same_keys ks
    → lists ≡ places_by (numbers_of same_keys ks) (length (distinct same_keys ks)) → has_null k ≡ false → position (same_keys k) keys ≡ Some g
    → (g < length lists) × (get_or lists g [] ≡ matches_in ks k)
unfolding places_by matches_in
found-some ks keys k lists g ek el clean e =
    let p : position (same_keys k) (distinct same_keys ks) ≡ Some g = rw ek at e in
    let c = length (distinct same_keys ks) in
    let gc = (position-Some (same_keys k) (distinct same_keys ks) g k p).0 in
    let size = length-map-range_with_len (places_of (numbers_of same_keys ks)) 0 c in
    let read = get_or-map-range_with_len (places_of (numbers_of same_keys ks)) 0 c g g [] gc (omega arith) in
    let agree = places-agree 0 (same_keys k) (keys_match k) (λ j. elim (cases_Bool (same_keys k j)) [ inl t ↦ rw (t, clean) refl | inr f ↦ rw f refl ]) ks in
    rw el (rw size gc, read ∙ group-is same_keys same_keys-decides ks k g p ∙ agree)

places-never : {X : Type 0} (n : ℕ) (xs : List X) → places_from n (λ x. false) xs ≡ []
places-never n [] = refl
places-never n (x ∷ xs) = places-never (suc n) xs

pub found-none : (ks keys : List (List Value)) (k : List Value) → keys ≡ distinct same_keys ks → list_any (same_keys k) keys ≡ false → matches_in ks k ≡ []
unfolding matches_in
found-none ks keys k ek e =
    let gone : list_any (same_keys k) ks ≡ false = sym (any-distinct same_keys same_keys-decides k ks) ∙ (rw ek at e) in
    elim (cases_Bool (has_null k)) [
      | inl t ↦ places-agree 0 (keys_match k) (λ j. false) (λ j. elim (cases_Bool (same_keys k j)) [ inl u ↦ rw (u, t) refl | inr f ↦ rw f refl ]) ks ∙ places-never 0 ks
      | inr c ↦ places-agree 0 (keys_match k) (same_keys k) (λ j. elim (cases_Bool (same_keys k j)) [ inl u ↦ rw (u, c) refl | inr f ↦ rw f refl ]) ks ∙ places-none 0 (same_keys k) ks gone
    ]

pub null-matches : (ks : List (List Value)) (k : List Value) → has_null k ≡ true → matches_in ks k ≡ []
unfolding matches_in
null-matches ks k t =
    places-agree 0 (keys_match k) (λ j. false) (λ j. elim (cases_Bool (same_keys k j)) [ inl u ↦ rw (u, t) refl | inr f ↦ rw f refl ]) ks ∙ places-never 0 ks

pub pairs-none : (columns keys : List (List Value)) → pairs_of columns 0 keys ≡ []
unfolding pairs_of
pairs-none columns keys = refl

pub pairs-more : (columns keys : List (List Value)) (i : ℕ) → pairs_of columns (i + 1) keys ≡ pairs_of columns i keys ++ map (λ j. (i, j)) (matches_in keys (row_of columns i))
unfolding pairs_of
pairs-more columns keys i =
    let one : i + 1 ≡ suc i = omega arith in
    let f = λ (i : ℕ). map (λ (j : ℕ). (i, j)) (matches_in keys (row_of columns i)) in
    let r : range_with_len 0 (i + 1) ≡ range_with_len 0 i ++ i ∷ [] = ap (range_with_len 0) one ∙ range-suc i in
    ap (flat_map f) r ∙ (flat_map-append f (range_with_len 0 i) (i ∷ []) ∙ ap (λ l. flat_map f (range_with_len 0 i) ++ l) (append-nil (f i)))

firsts-of : (i : ℕ) (js : List ℕ) → map (λ (p : ℕ × ℕ). p.0) (map (λ (j : ℕ). (i, j)) js) ≡ map (λ (j : ℕ). i) js
firsts-of i [] = refl
firsts-of i (j ∷ js) = ap (λ l. i ∷ l) (firsts-of i js)

seconds-of : (i : ℕ) (js : List ℕ) → map (λ (p : ℕ × ℕ). p.1) (map (λ (j : ℕ). (i, j)) js) ≡ js
seconds-of i [] = refl
seconds-of i (j ∷ js) = ap (λ l. j ∷ l) (seconds-of i js)

pub pairs-step : (columns keys : List (List Value)) (i : ℕ) (ls ls2 rs rs2 found : List ℕ) → found ≡ matches_in keys (row_of columns i)
    → ls ≡ map (λ p. p.0) (pairs_of columns i keys) → rs ≡ map (λ p. p.1) (pairs_of columns i keys) → ls2 ≡ ls ++ map (λ j. i) found → rs2 ≡ rs ++ found
    → (ls2 ≡ map (λ p. p.0) (pairs_of columns (i + 1) keys)) × (rs2 ≡ map (λ p. p.1) (pairs_of columns (i + 1) keys))
pairs-step columns keys i ls ls2 rs rs2 found ef el er el2 er2 =
    let pairs = map (λ (j : ℕ). (i, j)) found in
    let more : pairs_of columns (i + 1) keys ≡ pairs_of columns i keys ++ pairs = rw ef (pairs-more columns keys i) in (
      rw (el2, el, more, map-append (λ (p : ℕ × ℕ). p.0) (pairs_of columns i keys) pairs, firsts-of i found) refl,
      rw (er2, er, more, map-append (λ (p : ℕ × ℕ). p.1) (pairs_of columns i keys) pairs, seconds-of i found) refl,
    )
