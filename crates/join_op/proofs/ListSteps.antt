-- Lists: what maps, filters and lists of lists have in common.
use Rattle.std.proofs.Common.{◌≡◌, ◌<◌, ◌+◌, ℕ, zero, suc, Bool, true, false, List, [], ◌∷◌, ◌++◌, map, filter, length, get_or, refl, ap, ap₂, sym, ◌∙◌, inl, inr, arith}
use Rattle.std.specs.List.{flat_map, list_all, list_any, range_with_len}
use Rattle.std.proofs.lemmas.Bool.{cases_Bool}
use Rattle.std.proofs.lemmas.List.{map-append}
use Rattle.kql_values.specs.Moves.{beside}
use Rattle.kql_meaning.proofs.MemberLaws.{Member}

-- Functions that agree.

pub map-same : {X Y : Type 0} (f g : X → Y) (xs : List X) → ((x : X) → f x ≡ g x) → map f xs ≡ map g xs
map-same f g [] h = refl
map-same f g (x ∷ xs) h = ap₂ (λ y ys. y ∷ ys) (h x) (map-same f g xs h)

pub map-range-same : {X : Type 0} (f g : ℕ → X) (a n : ℕ) → ((i : ℕ) → i < a + n → f i ≡ g i) → map f (range_with_len a n) ≡ map g (range_with_len a n)
map-range-same f g a zero h = refl
map-range-same f g a (suc n) h = ap₂ (λ x xs. x ∷ xs) (h a (omega arith)) (map-range-same f g (a + 1) n (λ i lt. h i (omega (arith, lt))))

pub filter-same : {X : Type 0} (p q : X → Bool) (xs : List X) → ((x : X) → p x ≡ q x) → filter p xs ≡ filter q xs
filter-same p q [] h = refl
filter-same p q (x ∷ xs) h =
    let rest = filter-same p q xs h in
    let here : p x ≡ q x = h x in
    elim (cases_Bool (q x)) [
      | inl t ↦ let s : p x ≡ true = here ∙ t in rw (s, t) (ap (λ ys. x ∷ ys) rest)
      | inr f ↦ let s : p x ≡ false = here ∙ f in rw (s, f) rest
    ]

pub filter-range-same : (p q : ℕ → Bool) (a n : ℕ) → ((i : ℕ) → i < a + n → p i ≡ q i) → filter p (range_with_len a n) ≡ filter q (range_with_len a n)
filter-range-same p q a zero h = refl
filter-range-same p q a (suc n) h =
    let rest = filter-range-same p q (a + 1) n (λ i lt. h i (omega (arith, lt))) in
    let here : p a ≡ q a = h a (omega arith) in
    elim (cases_Bool (q a)) [
      | inl t ↦ let s : p a ≡ true = here ∙ t in rw (s, t) (ap (λ xs. a ∷ xs) rest)
      | inr f ↦ let s : p a ≡ false = here ∙ f in rw (s, f) rest
    ]

pub any-range-same : (p q : ℕ → Bool) (a n : ℕ) → ((i : ℕ) → i < a + n → p i ≡ q i) → list_any p (range_with_len a n) ≡ list_any q (range_with_len a n)
any-range-same p q a zero h = refl
any-range-same p q a (suc n) h =
    let rest = any-range-same p q (a + 1) n (λ i lt. h i (omega (arith, lt))) in
    rw (h a (omega arith), rest) refl

pub all-same : {X : Type 0} (p q : X → Bool) (xs : List X) → ((x : X) → p x ≡ q x) → list_all p xs ≡ list_all q xs
all-same p q [] h = refl
all-same p q (x ∷ xs) h = rw (h x, all-same p q xs h) refl

pub flat-same : {X Y : Type 0} (f g : X → List Y) (xs : List X) → ((x : X) → f x ≡ g x) → flat_map f xs ≡ flat_map g xs
flat-same f g [] h = refl
flat-same f g (x ∷ xs) h = ap₂ (λ ys zs. ys ++ zs) (h x) (flat-same f g xs h)

pub flat-same-in : {X Y : Type 0} (f g : X → List Y) (xs : List X) → ((x : X) → Member x xs → f x ≡ g x) → flat_map f xs ≡ flat_map g xs
flat-same-in f g [] h = refl
flat-same-in f g (x ∷ xs) h = ap₂ (λ ys zs. ys ++ zs) (h x (inl refl)) (flat-same-in f g xs (λ y m. h y (inr m)))

-- One by its place, the other by what stands there.
pub flat-at : {Y : Type 0} (f g : ℕ → List Y) (xs : List ℕ) (a : ℕ) → ((m : ℕ) → m < length xs → f (a + m) ≡ g (get_or xs m 0)) → flat_map f (range_with_len a (length xs)) ≡ flat_map g xs
flat-at f g [] a h = refl
flat-at f g (x ∷ xs) a h =
    let first : a + 0 ≡ a = omega arith in
    ap₂ (λ ys zs. ys ++ zs) (ap f (sym first) ∙ h 0 (omega arith)) (flat-at f g xs (a + 1) (λ m lt.
    let next : (a + 1) + m ≡ a + suc m = omega arith in
    ap f next ∙ h (suc m) (omega (arith, lt))))

pub map-flat : {X Y Z : Type 0} (h : Y → Z) (f : X → List Y) (xs : List X) → map h (flat_map f xs) ≡ flat_map (λ x. map h (f x)) xs
map-flat h f [] = refl
map-flat h f (x ∷ xs) = map-append h (f x) (flat_map f xs) ∙ ap (λ zs. map h (f x) ++ zs) (map-flat h f xs)

-- Rows side by side.

pub beside-pairs : {P X : Type 0} (f g : P → List X) (ps : List P) → beside (map f ps) (map g ps) ≡ map (λ p. f p ++ g p) ps
unfolding beside
beside-pairs f g [] = refl
beside-pairs f g (p ∷ ps) = ap (λ rows. (f p ++ g p) ∷ rows) (beside-pairs f g ps)

pub beside-append : {X : Type 0} (xs bs cs ds : List (List X)) → length xs ≡ length cs → beside (xs ++ bs) (cs ++ ds) ≡ beside xs cs ++ beside bs ds
unfolding beside
beside-append [] bs [] ds e = refl
beside-append [] bs (c ∷ cs) ds e = absurd (omega (arith, e))
beside-append (x ∷ xs) bs [] ds e = absurd (omega (arith, e))
beside-append (x ∷ xs) bs (c ∷ cs) ds e = ap (λ rows. (x ++ c) ∷ rows) (beside-append xs bs cs ds (omega (arith, e)))
