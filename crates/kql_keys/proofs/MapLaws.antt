-- Keys that are others under a map which tells apart what was apart: they have the same numbers.
use Rattle.std.proofs.Common.{◌≡◌, ◌++◌, ◌∷◌, ℕ, suc, Bool, not, List, [], map, filter, refl, sym, ap, inl, inr}
use Rattle.std.specs.Bool.{Decides, one_answer}
use Rattle.std.specs.List.{list_any, position_or_len}
use Rattle.std.proofs.lemmas.Bool.{cases_Bool}
use Rattle.std.proofs.lemmas.List.{map-append}
use Rattle.kql_keys.specs.Numbers.{distinct, first_places, fresh_places, numbers_of}

-- a map that tells apart what was apart keeps what is the same
pub map-agrees : {K L : Type 0} (f : K → L) (same : K → K → Bool) (alike : L → L → Bool) → ((a b : K) → Decides (same a b) (a ≡ b))
    → ((a b : L) → Decides (alike a b) (a ≡ b)) → ((a b : K) → f a ≡ f b → a ≡ b) → (a b : K) → alike (f a) (f b) ≡ same a b
map-agrees f same alike says tells apart a b = one_answer (alike (f a) (f b)) (same a b) (λ e. apart a b ((tells (f a) (f b)).0 e), λ p. (tells (f a) (f b)).1 (ap f p)) (says a b)

module _ {K L : Type 0} (f : K → L) (same : K → K → Bool) (alike : L → L → Bool) (agrees : (a b : K) → alike (f a) (f b) ≡ same a b) where
  others-map : (k : K) (ks : List K) → filter (λ j. not (alike (f k) j)) (map f ks) ≡ map f (filter (λ j. not (same k j)) ks)
  others-map k [] = refl
  others-map k (x ∷ ks) = elim (cases_Bool (same k x)) [
    | inl t ↦ rw (agrees k x, t) (others-map k ks)
    | inr n ↦ rw (agrees k x, n) (ap (λ l. f x ∷ l) (others-map k ks))
  ]

  pub distinct-map : (ks : List K) → distinct alike (map f ks) ≡ map f (distinct same ks)
  distinct-map [] = refl
  distinct-map (k ∷ ks) = rw (distinct-map ks) (ap (λ l. f k ∷ l) (others-map k (distinct same ks)))

  position-map : (k : K) (ks : List K) → position_or_len (alike (f k)) (map f ks) ≡ position_or_len (same k) ks
  position-map k [] = refl
  position-map k (x ∷ ks) = elim (cases_Bool (same k x)) [
    | inl t ↦ rw (agrees k x, t) refl
    | inr n ↦ rw (agrees k x, n, position-map k ks) refl
  ]

  positions-map : (F js : List K) → map (λ j. position_or_len (alike j) (map f F)) (map f js) ≡ map (λ j. position_or_len (same j) F) js
  positions-map F [] = refl
  positions-map F (j ∷ js) = rw (position-map j F, positions-map F js) refl

  pub numbers-map : (ks : List K) → numbers_of alike (map f ks) ≡ numbers_of same ks
  unfolding numbers_of
  numbers-map ks = rw (distinct-map ks) (positions-map (distinct same ks) ks)

  any-map : (k : K) (ks : List K) → list_any (alike (f k)) (map f ks) ≡ list_any (same k) ks
  any-map k [] = refl
  any-map k (x ∷ ks) = rw (agrees k x, any-map k ks) refl

  fresh-map : (before : List K) (n : ℕ) (ks : List K) → fresh_places alike (map f before) n (map f ks) ≡ fresh_places same before n ks
  fresh-map before n [] = refl
  fresh-map before n (k ∷ ks) =
      let more : map f before ++ f k ∷ [] ≡ map f (before ++ k ∷ []) = sym (map-append f before (k ∷ [])) in
      let rest = fresh-map (before ++ k ∷ []) (suc n) ks in
      elim (cases_Bool (list_any (same k) before)) [
        | inl t ↦ rw (any-map k before, t, more) rest
        | inr e ↦ rw (any-map k before, e, more) (ap (λ l. n ∷ l) rest)
      ]

  pub firsts-map : (ks : List K) → first_places alike (map f ks) ≡ first_places same ks
  unfolding first_places
  firsts-map ks = fresh-map [] 0 ks
