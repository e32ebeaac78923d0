-- Facts of lists that several laws use.
use Rattle.std.proofs.Common.{◌≡◌, ◌<◌, ◌≤◌, ◌+◌, ℕ, zero, suc, Bool, true, false, not, List, [], ◌∷◌, map, length, filter, refl, ap, ap₂, ◌∙◌, arith, inl, inr}
use Rattle.std.specs.List.{AllByRecursion, flat_map, range_with_len}
use Rattle.std.proofs.lemmas.Bool.{cases_Bool}
use Rattle.kql_cells.specs.Seen.{row_at}
use Rattle.kql_cells.specs.Table.{Grid, gathered}
use Rattle.kql_cells.specs.declared.value.Value.{Value}
use Rattle.kql_meaning.specs.Tables.{distinct_by, places, places_below}

-- What holds of each element holds of each that is kept.
pub every-filter : {X : Type 0} (P : X → Type 0) (q : X → Bool) (xs : List X) → AllByRecursion P xs → AllByRecursion P (filter q xs)
every-filter P q [] h = tt
every-filter P q (x ∷ xs) h = elim (cases_Bool (q x)) [
  | inl t ↦ rw t (h.0, every-filter P q xs h.1)
  | inr n ↦ rw n (every-filter P q xs h.1)
]

-- Where each passes, all are kept; where none does, none.
pub filter-all : {X : Type 0} (q : X → Bool) (xs : List X) → AllByRecursion (λ x. q x ≡ true) xs → filter q xs ≡ xs
filter-all q [] h = refl
filter-all q (x ∷ xs) h = rw (h.0, filter-all q xs h.1) refl

pub filter-none : {X : Type 0} (q : X → Bool) (xs : List X) → AllByRecursion (λ x. q x ≡ false) xs → filter q xs ≡ []
filter-none q [] h = refl
filter-none q (x ∷ xs) h = rw (h.0, filter-none q xs h.1) refl

pub every-distinct : {X : Type 0} (P : X → Type 0) (same : X → X → Bool) (xs : List X) → AllByRecursion P xs → AllByRecursion P (distinct_by same xs)
unfolding distinct_by
every-distinct P same [] h = tt
every-distinct P same (x ∷ xs) h = (h.0, every-filter P (λ y. not (same x y)) (distinct_by same xs) (every-distinct P same xs h.1))

turned : {X : Type 0} (p : X → Bool) (ys : List X) → AllByRecursion (λ y. p y ≡ true) ys → AllByRecursion (λ y. not (p y) ≡ false) ys
turned p [] h = tt
turned p (y ∷ ys) h = (ap not h.0, turned p ys h.1)

-- Elements that are all the same are one.
pub distinct-one : {X : Type 0} (same : X → X → Bool) (x : X) (xs : List X) → AllByRecursion (λ y. same x y ≡ true) xs → distinct_by same (x ∷ xs) ≡ x ∷ []
unfolding distinct_by
distinct-one same x xs h =
    ap (λ ys. x ∷ ys) (filter-none (λ y. not (same x y)) (distinct_by same xs) (turned (same x) (distinct_by same xs) (every-distinct (λ y. same x y ≡ true) same xs h)))

-- What holds of each number of a range holds of what a function makes of it.
pub every-map-range : {X : Type 0} (P : X → Type 0) (f : ℕ → X) (a n : ℕ) → ((i : ℕ) → a ≤ i → i < a + n → P (f i)) → AllByRecursion P (map f (range_with_len a n))
every-map-range P f a zero h = tt
every-map-range P f a (suc n) h = (h a (omega arith) (omega arith), every-map-range P f (a + 1) n (λ i low high. h i (omega arith) (omega arith)))

pub every-range : (P : ℕ → Type 0) (a n : ℕ) → ((i : ℕ) → a ≤ i → i < a + n → P i) → AllByRecursion P (range_with_len a n)
every-range P a zero h = tt
every-range P a (suc n) h = (h a (omega arith) (omega arith), every-range P (a + 1) n (λ i low high. h i (omega arith) (omega arith)))

-- A range one further on.
range-next : {X : Type 0} (f : ℕ → X) (a n : ℕ) → map f (range_with_len (a + 1) n) ≡ map (λ i. f (suc i)) (range_with_len a n)
range-next f a zero = refl
range-next f a (suc n) = let next : a + 1 ≡ suc a = omega arith in ap₂ (λ x xs. x ∷ xs) (ap f next) (range-next f (a + 1) n)

-- The rows at all places are the rows.
rows-at-all : (lines : List (List Value)) → map (row_at lines) (range_with_len 0 (length lines)) ≡ lines
rows-at-all [] = refl
rows-at-all (line ∷ lines) = ap (λ ls. line ∷ ls) (range-next (row_at (line ∷ lines)) 0 (length lines) ∙ rows-at-all lines)

pub gathered-all : (t : Grid) → gathered t (places t) ≡ t
unfolding places places_below
gathered-all t = ap (λ ls. record { columns = t.columns; lines = ls }) (rows-at-all t.lines)

pub flat_map-nothing : {X A : Type 0} (f : X → List A) (xs : List X) → ((x : X) → f x ≡ []) → flat_map f xs ≡ []
flat_map-nothing f [] h = refl
flat_map-nothing f (x ∷ xs) h = rw (h x) (flat_map-nothing f xs h)
