-- Groups and matches in the words of the definitions: filters of the rows.
use Rattle.std.proofs.Common.{◌≡◌, ◌<◌, ◌+◌, ◌==◌, ◌||◌, ◌∷◌, ◌++◌, ◌∙◌, ℕ, zero, suc, Bool, true, false, not, List, [], map, filter, length, get_or, refl, sym, ap, inl, inr, arith}
use Rattle.std.specs.Prelude.{⊤}
use Rattle.std.specs.Bool.{Decides}
use Rattle.std.specs.List.{list_any, position_or_len, range_with_len}
use Rattle.std.proofs.lemmas.Bool.{cases_Bool}
use Rattle.std.proofs.lemmas.List.{length-map, get_or_default}
use Rattle.std.proofs.lemmas.List.FromFn.{map-range_with_len_more}
use Rattle.std.proofs.lemmas.List.Folds.{list_any_at}
use Rattle.std.proofs.lemmas.Map.Views.{any-filter_same}
use Rattle.kql_cells.specs.declared.value.Value.{Value}
use Rattle.kql_values.specs.Grids.{row_of, rows_of}
use Rattle.kql_keys.specs.Matches.{keys_match, matches_in}
use Rattle.kql_keys.specs.Numbers.{distinct, first_places, numbers_of}
use Rattle.kql_keys.specs.Places.{places_of}
use Rattle.kql_cells.specs.Keys.{same_keys, same_keys-decides}
use Rattle.kql_keys.proofs.NumberLaws.{distinct-are, places-agree, places-filter, places-map}
use Rattle.kql_keys.proofs.ProbeFacts.{number-at, numbers-low}

-- the rows that match a key
pub matches-are : (key : ℕ → List Value) (k : List Value) (n : ℕ) → matches_in (map key (range_with_len 0 n)) k ≡ filter (λ j. keys_match k (key j)) (range_with_len 0 n)
unfolding matches_in
matches-are key k n = places-filter key (keys_match k) 0 n

-- one row more
pub rows-more : (columns : List (List Value)) (i : ℕ) → rows_of (i + 1) columns ≡ rows_of i columns ++ row_of columns i ∷ []
unfolding rows_of
rows-more columns i = map-range_with_len_more (row_of columns) 0 i i (omega arith)

-- each number is less than the count of first places
pub numbers-within : (columns : List (List Value)) (count : ℕ) (numbers firsts : List ℕ) → numbers ≡ numbers_of same_keys (rows_of count columns)
    → firsts ≡ first_places same_keys (rows_of count columns) → (k d : ℕ) → k < length numbers → get_or numbers k d < length firsts
unfolding rows_of
numbers-within columns count numbers firsts en ef k d =
    let ks = rows_of count columns in
    let size : length (distinct same_keys ks) ≡ length (first_places same_keys ks) = ap length (distinct-are same_keys same_keys-decides (row_of columns) count) ∙ length-map (first_places same_keys ks) (row_of columns) in
    rw (en, ef, ← size) (numbers-low same_keys same_keys-decides ks k d)

-- the keys at the first places are the distinct ones
pub first-keys : (columns : List (List Value)) (count : ℕ) (firsts : List ℕ) → firsts ≡ first_places same_keys (rows_of count columns)
    → map (row_of columns) firsts ≡ distinct same_keys (rows_of count columns)
unfolding rows_of
first-keys columns count firsts ef = rw ef (sym (distinct-are same_keys same_keys-decides (row_of columns) count))

or-none : (a b : Bool) → (a || b) ≡ false → (a ≡ false) × (b ≡ false)
or-none true b e = cc
or-none false b e = (refl, e)

any-filter-none : {K : Type 0} (t p : K → Bool) (l : List K) → list_any t l ≡ false → list_any t (filter p l) ≡ false
any-filter-none t p [] e = refl
any-filter-none t p (x ∷ l) e =
    let q = or-none (t x) (list_any t l) e in
    let rest = any-filter-none t p l q.1 in
    elim (cases_Bool (p x)) [ inl y ↦ rw (y, q.0) rest | inr n ↦ rw n rest ]

module _ {K : Type 0} (same : K → K → Bool) (says : (a b : K) → Decides (same a b) (a ≡ b)) where
  abbrev Distinct : List K → Type 0
  Distinct [] = ⊤
  Distinct (x ∷ xs) = (list_any (same x) xs ≡ false) × Distinct xs

  filter-distinct : (p : K → Bool) (l : List K) → Distinct l → Distinct (filter p l)
  filter-distinct p [] d = tt
  filter-distinct p (x ∷ l) d = elim (cases_Bool (p x)) [
    | inl y ↦ rw y (any-filter-none (same x) p l d.0, filter-distinct p l d.1)
    | inr n ↦ rw n (filter-distinct p l d.1)
  ]

  distinct-distinct : (ks : List K) → Distinct (distinct same ks)
  distinct-distinct [] = tt
  distinct-distinct (x ∷ ks) =
      (any-filter_same (same x) (λ j. not (same x j)) false (λ j e. rw e refl) (distinct same ks), filter-distinct (λ j. not (same x j)) (distinct same ks) (distinct-distinct ks))

  -- a distinct key has its own place
  position-own : (F : List K) (g : ℕ) (d : K) → Distinct F → g < length F → position_or_len (same (get_or F g d)) F ≡ g
  position-own [] g d h lt = absurd (omega arith)
  position-own (x ∷ F) zero d h lt = rw ((says x x).1 refl) refl
  position-own (x ∷ F) (suc g) d h lt =
      let inside : g < length F = omega arith in
      let y = get_or F g d in
      let rest = position-own F g d h.1 inside in
      elim (cases_Bool (same y x)) [
        | inl t ↦
            let e : y ≡ x = (says y x).0 t in
            let back : same x y ≡ true = (says x y).1 (sym e) in
            let there = list_any_at (same x) F g d inside back in
            absurd (cc (there, h.0))
        | inr f ↦ rw (f, rest) (omega arith)
      ]

  -- the places of a number are the rows with its key
  pub group-rows : (key : ℕ → K) (n g : ℕ) (d : K) → g < length (distinct same (map key (range_with_len 0 n)))
      → places_of (numbers_of same (map key (range_with_len 0 n))) g ≡ filter (λ i. same (get_or (distinct same (map key (range_with_len 0 n))) g d) (key i)) (range_with_len 0 n)
  unfolding numbers_of places_of
  group-rows key n g d lt =
      let ks = map key (range_with_len 0 n) in
      let F = distinct same ks in
      let k = get_or F g d in
      let own = position-own F g d (distinct-distinct ks) lt in
      let at : same k (get_or F g k) ≡ true = rw (get_or_default F g k d lt) ((says k k).1 refl) in
      places-map (λ j. position_or_len (same j) F) 0 (λ x. x == g) ks
      ∙ places-agree 0 (λ j. position_or_len (same j) F == g) (same k) (λ j. number-at same says F k j g lt at own) ks
      ∙ places-filter key (same k) 0 n
