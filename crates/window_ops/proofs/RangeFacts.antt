-- Maps over the rows of a range.
use Rattle.std.proofs.Common.{◌≡◌, ◌<◌, ◌+◌, ℕ, zero, suc, Bool, List, [], ◌∷◌, map, length, filter, refl, ap, ap₂, ◌∙◌, inl, inr, arith}
use Rattle.std.specs.List.{range_with_len}
use Rattle.std.proofs.lemmas.Bool.{cases_Bool}
use Rattle.std.proofs.lemmas.List.FromFn.{get_or-map-range_with_len, length-map-range_with_len}
use Rattle.kql_cells.specs.Seen.{value_at}
use Rattle.kql_cells.specs.declared.value.Value.{Value}
use Rattle.kql_cells.specs.declared.value.Value.TheVariants as value

pub filter-range-same : (p q : ℕ → Bool) (a n : ℕ) → ((i : ℕ) → i < a + n → p i ≡ q i) → filter p (range_with_len a n) ≡ filter q (range_with_len a n)
filter-range-same p q a zero h = refl
filter-range-same p q a (suc n) h =
    let rest = filter-range-same p q (a + 1) n (λ i lt. h i (omega (arith, lt))) in
    elim (cases_Bool (q a)) [
      | inl t ↦ rw (h a (omega arith), t) (ap (λ xs. a ∷ xs) rest)
      | inr f ↦ rw (h a (omega arith), f) rest
    ]

-- The value at a row of a column that is made of its rows.
pub at-row : (f : ℕ → Value) (n i : ℕ) → i < n → value_at (map f (range_with_len 0 n)) i ≡ f i
at-row f n i lt = get_or-map-range_with_len f 0 n i i value.Null lt (omega arith)

pub long-range : {X : Type 0} (f : ℕ → X) (n : ℕ) → length (map f (range_with_len 0 n)) ≡ n
long-range f n = length-map-range_with_len f 0 n

shifted : (v : Value) (vs : List Value) (a n : ℕ) → map (value_at (v ∷ vs)) (range_with_len (a + 1) n) ≡ map (value_at vs) (range_with_len a n)
shifted v vs a zero = refl
shifted v vs a (suc n) = let next : a + 1 ≡ suc a = omega arith in ap₂ (λ x xs. x ∷ xs) (ap (value_at (v ∷ vs)) next) (shifted v vs (a + 1) n)

-- All values of a column, one after another.
pub all-values : (vs : List Value) → map (value_at vs) (range_with_len 0 (length vs)) ≡ vs
all-values [] = refl
all-values (v ∷ vs) = ap (λ xs. v ∷ xs) (shifted v vs 0 (length vs) ∙ all-values vs)

-- A map over a range that begins further on.
pub rows-on : {X : Type 0} (f : ℕ → X) (a b n : ℕ) → map f (range_with_len (a + b) n) ≡ map (λ k. f (a + k)) (range_with_len b n)
rows-on f a b zero = refl
rows-on f a b (suc n) =
    let next : a + b + 1 ≡ a + (b + 1) = omega arith in
    ap (λ vs. f (a + b) ∷ vs) (ap (λ m. map f (range_with_len m n)) next ∙ rows-on f a (b + 1) n)
