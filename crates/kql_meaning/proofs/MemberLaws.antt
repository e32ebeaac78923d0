-- The elements of lists, and lists in which a relation holds of each element and each later one.
use Rattle.std.proofs.Common.{◌≡◌, ◌<◌, ◌≤◌, ◌+◌, ◌⊎◌, ℕ, zero, suc, Bool, true, false, List, [], ◌∷◌, ◌++◌, map, length, filter, get_or, refl, sym, ap, ◌∙◌, arith, inl, inr, subst}
use Rattle.std.specs.Prelude.{AllPairs, Contains}
use Rattle.std.specs.List.{AllByRecursion, flat_map, range_with_len}
use Rattle.std.proofs.Math.Nat.{eq-or-lt_of_le}
use Rattle.std.proofs.lemmas.Bool.{cases_Bool}

-- An element is the first or one of the others.
abbrev pub Member : {X : Type 0} → X → List X → Type 0
Member z [] = ⊥
Member z (x ∷ xs) = (x ≡ z) ⊎ Member z xs

pub member-at : {X : Type 0} (xs : List X) (z : X) (k : ℕ) → k < length xs → get_or xs k z ≡ z → Member z xs
member-at [] z k lt e = absurd (omega arith)
member-at (x ∷ xs) z zero lt e = inl e
member-at (x ∷ xs) z (suc k) lt e = inr (member-at xs z k (omega arith) e)

pub member-contains : {X : Type 0} (xs : List X) (z : X) → Contains xs z → Member z xs
member-contains xs z c = member-at xs z c.0 c.1 c.2

pub contains-member : {X : Type 0} (xs : List X) (z : X) → Member z xs → Contains xs z
contains-member [] z m = absurd m
contains-member (x ∷ xs) z (inl e) = (0, omega arith, e)
contains-member (x ∷ xs) z (inr m) = let c = contains-member xs z m in (suc c.0, omega (arith, c.1), c.2)

pub every-of-members : {X : Type 0} (P : X → Type 0) (xs : List X) → ((y : X) → Member y xs → P y) → AllByRecursion P xs
every-of-members P [] h = tt
every-of-members P (x ∷ xs) h = (h x (inl refl), every-of-members P xs (λ y m. h y (inr m)))

pub of-member : {X : Type 0} (P : X → Type 0) (xs : List X) (z : X) → AllByRecursion P xs → Member z xs → P z
of-member P [] z h m = absurd m
of-member P (x ∷ xs) z h (inl e) = subst P e h.0
of-member P (x ∷ xs) z h (inr m) = of-member P xs z h.1 m

pub member-left : {X : Type 0} (xs ys : List X) (z : X) → Member z xs → Member z (xs ++ ys)
member-left [] ys z m = absurd m
member-left (x ∷ xs) ys z (inl e) = inl e
member-left (x ∷ xs) ys z (inr m) = inr (member-left xs ys z m)

pub member-right : {X : Type 0} (xs ys : List X) (z : X) → Member z ys → Member z (xs ++ ys)
member-right [] ys z m = m
member-right (x ∷ xs) ys z m = inr (member-right xs ys z m)

pub member-either : {X : Type 0} (xs ys : List X) (z : X) → Member z (xs ++ ys) → Member z xs ⊎ Member z ys
member-either [] ys z m = inr m
member-either (x ∷ xs) ys z (inl e) = inl (inl e)
member-either (x ∷ xs) ys z (inr m) = elim (member-either xs ys z m) [
  | inl l ↦ inl (inr l)
  | inr r ↦ inr r
]

pub member-map : {X Y : Type 0} (f : X → Y) (xs : List X) (x : X) → Member x xs → Member (f x) (map f xs)
member-map f [] x m = absurd m
member-map f (y ∷ ys) x (inl e) = inl (ap f e)
member-map f (y ∷ ys) x (inr m) = inr (member-map f ys x m)

pub member-of-map : {X Y : Type 0} (f : X → Y) (xs : List X) (z : Y) → Member z (map f xs) → (x : X) × Member x xs × (f x ≡ z)
member-of-map f [] z m = absurd m
member-of-map f (x ∷ xs) z (inl e) = (x, inl refl, e)
member-of-map f (x ∷ xs) z (inr m) = let r = member-of-map f xs z m in (r.0, inr r.1, r.2)

pub member-flat : {X Y : Type 0} (f : X → List Y) (xs : List X) (x : X) (z : Y) → Member x xs → Member z (f x) → Member z (flat_map f xs)
member-flat f [] x z m n = absurd m
member-flat f (y ∷ ys) x z (inl e) n = member-left (f y) (flat_map f ys) z (subst (λ w. Member z (f w)) (sym e) n)
member-flat f (y ∷ ys) x z (inr m) n = member-right (f y) (flat_map f ys) z (member-flat f ys x z m n)

pub member-of-flat : {X Y : Type 0} (f : X → List Y) (xs : List X) (z : Y) → Member z (flat_map f xs) → (x : X) × Member x xs × Member z (f x)
member-of-flat f [] z m = absurd m
member-of-flat f (x ∷ xs) z m = elim (member-either (f x) (flat_map f xs) z m) [
  | inl l ↦ (x, inl refl, l)
  | inr r ↦ let q = member-of-flat f xs z r in (q.0, inr q.1, q.2)
]

pub member-filter : {X : Type 0} (p : X → Bool) (xs : List X) (z : X) → Member z xs → p z ≡ true → Member z (filter p xs)
member-filter p [] z m e = absurd m
member-filter p (x ∷ xs) z m e = elim (cases_Bool (p x)) [
  | inl t ↦ rw t (elim m [ inl s ↦ inl s | inr r ↦ inr (member-filter p xs z r e) ])
  | inr n ↦ rw n (elim m [ inl s ↦ absurd (let c : false ≡ true = sym n ∙ (ap p s ∙ e) in cc) | inr r ↦ member-filter p xs z r e ])
]

pub member-of-filter : {X : Type 0} (p : X → Bool) (xs : List X) (z : X) → Member z (filter p xs) → Member z xs × (p z ≡ true)
member-of-filter p [] z m = absurd m
member-of-filter p (x ∷ xs) z m = elim (cases_Bool (p x)) [
  | inl t ↦
      let n : Member z (x ∷ filter p xs) = rw t at m in
      elim n [
        | inl s ↦ (inl s, subst (λ w. p w ≡ true) s t)
        | inr r ↦ let q = member-of-filter p xs z r in (inr q.0, q.1)
      ]
  | inr n ↦
      let r : Member z (filter p xs) = rw n at m in
      let q = member-of-filter p xs z r in
      (inr q.0, q.1)
]

pub member-range : (a n i : ℕ) → a ≤ i → i < a + n → Member i (range_with_len a n)
member-range a zero i low high = absurd (omega arith)
member-range a (suc n) i low high = elim (eq-or-lt_of_le low) [
  | inl e ↦ inl e
  | inr l ↦ inr (member-range (a + 1) n i (omega (arith, l)) (omega arith))
]

pub member-of-range : (a n i : ℕ) → Member i (range_with_len a n) → (a ≤ i) × (i < a + n)
member-of-range a zero i m = absurd m
member-of-range a (suc n) i (inl e) = (omega (arith, e), omega (arith, e))
member-of-range a (suc n) i (inr m) = let q = member-of-range (a + 1) n i m in (omega (arith, q.0), omega (arith, q.1))

-- A relation holds of each element and each later one.
abbrev pub Pairwise : {X : Type 0} → (X → X → Type 0) → List X → Type 0
Pairwise R [] = Unit {0}
Pairwise R (x ∷ xs) = AllByRecursion (R x) xs × Pairwise R xs

pub every-at : {X : Type 0} (P : X → Type 0) (xs : List X) → AllByRecursion P xs → (k : ℕ) (d : X) → k < length xs → P (get_or xs k d)
every-at P [] h k d lt = absurd (omega arith)
every-at P (x ∷ xs) h zero d lt = h.0
every-at P (x ∷ xs) h (suc k) d lt = every-at P xs h.1 k d (omega arith)

pub pairs-of : {X : Type 0} (R : X → X → Type 0) (xs : List X) → Pairwise R xs → AllPairs R xs
pairs-of R [] h i j d lt in_range = absurd (omega arith)
pairs-of R (x ∷ xs) h zero zero d lt in_range = absurd (omega arith)
pairs-of R (x ∷ xs) h zero (suc j) d lt in_range = every-at (R x) xs h.0 j d (omega arith)
pairs-of R (x ∷ xs) h (suc i) zero d lt in_range = absurd (omega arith)
pairs-of R (x ∷ xs) h (suc i) (suc j) d lt in_range = pairs-of R xs h.1 i j d (omega arith) (omega arith)

pub pairwise-append : {X : Type 0} (R : X → X → Type 0) (xs ys : List X) → Pairwise R xs → Pairwise R ys → ((x y : X) → Member x xs → Member y ys → R x y) → Pairwise R (xs ++ ys)
pairwise-append R [] ys h k across = k
pairwise-append R (x ∷ xs) ys h k across =
    (every-of-members (R x) (xs ++ ys) (λ z m. elim (member-either xs ys z m) [ inl l ↦ of-member (R x) xs z h.0 l | inr r ↦ across x z (inl refl) r ]), pairwise-append R xs ys h.1 k (λ u v m n. across u v (inr m) n))

-- What each number of a range gives, one after another.
pub pairwise-flat : {X : Type 0} (R : X → X → Type 0) (f : ℕ → List X) (a n : ℕ) → ((i : ℕ) → Pairwise R (f i)) → ((i j : ℕ) (x y : X) → i < j → Member x (f i) → Member y (f j) → R x y) → Pairwise R (flat_map f (range_with_len a n))
pairwise-flat R f a zero each across = tt
pairwise-flat R f a (suc n) each across =
    pairwise-append R (f a) (flat_map f (range_with_len (a + 1) n)) (each a) (pairwise-flat R f (a + 1) n each across)
    (λ x y m k. let q = member-of-flat f (range_with_len (a + 1) n) y k in let r = member-of-range (a + 1) n q.0 q.1 in across a q.0 x y (omega (arith, r.0)) m q.2)

pub pairwise-map : {X Y : Type 0} (R : X → X → Type 0) (S : Y → Y → Type 0) (f : X → Y) (xs : List X) → ((x y : X) → R x y → S (f x) (f y)) → Pairwise R xs → Pairwise S (map f xs)
pairwise-map R S f [] keep h = tt
pairwise-map R S f (x ∷ xs) keep h =
    (every-of-members (S (f x)) (map f xs) (λ z m. let q = member-of-map f xs z m in subst (S (f x)) q.2 (keep x q.0 (of-member (R x) xs q.0 h.0 q.1))), pairwise-map R S f xs keep h.1)

pub pairwise-filter : {X : Type 0} (R : X → X → Type 0) (p : X → Bool) (xs : List X) → Pairwise R xs → Pairwise R (filter p xs)
pairwise-filter R p [] h = tt
pairwise-filter R p (x ∷ xs) h = elim (cases_Bool (p x)) [
  | inl t ↦ rw t (every-of-members (R x) (filter p xs) (λ z m. of-member (R x) xs z h.0 (member-of-filter p xs z m).0), pairwise-filter R p xs h.1)
  | inr n ↦ rw n (pairwise-filter R p xs h.1)
]

pub pairwise-range : (a n : ℕ) → Pairwise (λ i j. i < j) (range_with_len a n)
pairwise-range a zero = tt
pairwise-range a (suc n) = (every-of-members (λ j. a < j) (range_with_len (a + 1) n) (λ j m. let q = member-of-range (a + 1) n j m in omega (arith, q.0)), pairwise-range (a + 1) n)
