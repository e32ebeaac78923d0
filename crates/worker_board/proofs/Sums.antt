-- Sums over lists of which one element changes, and lists that have each number below some n once.
use Rattle.std.proofs.Common.{◌≡◌, ◌≢◌, ℕ, zero, suc, ◌+◌, ◌<◌, ◌≤◌, min, List, [], ◌∷◌, ◌++◌, length, set, sum_by, cond, eqb, sym, refl, ap, subst, ◌∙◌, arith}
use Rattle.std.specs.List.{range_with_len}
use Rattle.std.proofs.lemmas.List.Sums.{sum_by-cons, sum_by-append}
use Rattle.std.proofs.lemmas.Bool.Decides.{nat_tests}
use mathlib.Core.Option.{some, some-injective, some-ne-none}
use mathlib.Core.Logic.{dite}
use native.Mathlib.Decide.{dec_le, ℕ_discrete}
use lib.ListN.{get_elem?}
use Rattle.worker_board.specs.Counts.{times, once_below, least}

-- the sum of f, by recursion
abbrev total : {X : Type 0} → (X → ℕ) → List X → ℕ
total f [] = 0
total f (x ∷ xs) = f x + total f xs

-- what one number adds to how often another is counted
abbrev pub same : ℕ → ℕ → ℕ
same x y = cond (eqb y x) 1 0

sum_is : {X : Type 0} (f : X → ℕ) (xs : List X) → sum_by f xs ≡ total f xs
sum_is f [] = refl
sum_is f (x ∷ xs) = sum_by-cons f x xs ∙ ap (λ n. f x + n) (sum_is f xs)

module _ {X : Type 0} (f : X → ℕ) where
  pub sum_push : (xs : List X) (y : X) → sum_by f (xs ++ y ∷ []) ≡ sum_by f xs + f y
  sum_push xs y = sum_by-append f xs (y ∷ []) ∙ omega arith

  total-set : (xs : List X) (i : ℕ) (a b : X) → get_elem? xs i ≡ some a → total f (set xs i b) + f a ≡ total f xs + f b
  total-set [] i a b e = absurd (some-ne-none a (sym e))
  total-set (x ∷ xs) zero a b e = let h = ap f (some-injective x a e) in omega (arith, h)
  total-set (x ∷ xs) (suc i) a b e = omega (arith, total-set xs i a b e)

  -- one element is changed from a to b
  pub sum-set : (xs : List X) (i : ℕ) (a b : X) → get_elem? xs i ≡ some a → sum_by f (set xs i b) + f a ≡ sum_by f xs + f b
  sum-set xs i a b e = omega (arith, sum_is f (set xs i b), sum_is f xs, total-set xs i a b e)

  total-at : (xs : List X) (i : ℕ) (a : X) → get_elem? xs i ≡ some a → f a ≤ total f xs
  total-at [] i a e = absurd (some-ne-none a (sym e))
  total-at (x ∷ xs) zero a e = let h = ap f (some-injective x a e) in omega (arith, h)
  total-at (x ∷ xs) (suc i) a e = omega (arith, total-at xs i a e)

  pub sum-at : (xs : List X) (i : ℕ) (a : X) → get_elem? xs i ≡ some a → f a ≤ sum_by f xs
  sum-at xs i a e = omega (arith, sum_is f xs, total-at xs i a e)

  pub sum-empty : (xs : List X) → length xs ≡ 0 → sum_by f xs ≡ 0
  sum-empty [] e = refl
  sum-empty (x ∷ xs) e = absurd (omega arith)

module _ {X : Type 0} (f g : X → ℕ) where
  total-le : (xs : List X) → ((i : ℕ) (a : X) → get_elem? xs i ≡ some a → f a ≤ g a) → total f xs ≤ total g xs
  total-le [] h = omega arith
  total-le (x ∷ xs) h = omega (arith, h 0 x refl, total-le xs (λ i a e. h (suc i) a e))

  pub sum-le : (xs : List X) → ((i : ℕ) (a : X) → get_elem? xs i ≡ some a → f a ≤ g a) → sum_by f xs ≤ sum_by g xs
  sum-le xs h = omega (arith, sum_is f xs, sum_is g xs, total-le xs h)

  total-all_zero : (xs : List X) → total g xs ≡ 0 → ((j : ℕ) (b : X) → get_elem? xs j ≡ some b → g b ≡ 0 → f b ≡ 0) → total f xs ≡ 0
  total-all_zero [] z h = refl
  total-all_zero (x ∷ xs) z h =
      let z0 : g x ≡ 0 = omega arith in
      let zs : total g xs ≡ 0 = omega arith in
      omega (arith, h 0 x refl z0, total-all_zero xs zs (λ j b e. h (suc j) b e))

  total-alone : (xs : List X) (i : ℕ) (a : X) → get_elem? xs i ≡ some a → total g xs ≡ g a → ((j : ℕ) (b : X) → get_elem? xs j ≡ some b → g b ≡ 0 → f b ≡ 0) → total f xs ≡ f a
  total-alone [] i a e t h = absurd (some-ne-none a (sym e))
  total-alone (x ∷ xs) zero a e t h =
      let p = ap g (some-injective x a e) in
      let q = ap f (some-injective x a e) in
      let zs : total g xs ≡ 0 = omega (arith, p) in
      omega (arith, q, total-all_zero xs zs (λ j b k. h (suc j) b k))
  total-alone (x ∷ xs) (suc i) a e t h =
      let at = total-at g xs i a e in
      let z0 : g x ≡ 0 = omega (arith, at) in
      let zs : total g xs ≡ g a = omega (arith, at) in
      omega (arith, h 0 x refl z0, total-alone xs i a e zs (λ j b k. h (suc j) b k))

  -- all of g is at one place, and f is nothing where g is nothing: all of f is at that place too
  pub sum-alone : (xs : List X) (i : ℕ) (a : X) → get_elem? xs i ≡ some a → sum_by g xs ≡ g a → ((j : ℕ) (b : X) → get_elem? xs j ≡ some b → g b ≡ 0 → f b ≡ 0) → sum_by f xs ≡ f a
  sum-alone xs i a e t h = sum_is f xs ∙ total-alone xs i a e (sym (sum_is g xs) ∙ t) h

-- the number n comes after those below it
pub once_below-suc : (x n : ℕ) → once_below x (suc n) ≡ once_below x n + same x n
unfolding once_below
once_below-suc x n = grind (arith, nat_tests)

pub once_below-in : (x n : ℕ) → x < n → once_below x n ≡ 1
unfolding once_below
once_below-in x n h = grind (arith, nat_tests)

pub once_below-out : (x n : ℕ) → n ≤ x → once_below x n ≡ 0
unfolding once_below
once_below-out x n h = grind (arith, nat_tests)

pub same_itself : (x : ℕ) → same x x ≡ 1
same_itself x = grind (arith, nat_tests)

pub same_else : (x y : ℕ) → x ≢ y → same x y ≡ 0
same_else x y n = grind (arith, nat_tests)

-- one number more
pub times-cons : (w x : ℕ) (xs : List ℕ) → times w (x ∷ xs) ≡ same w x + times w xs
times-cons w x xs = sum_by-cons (same w) x xs

pub times-range : (x a n : ℕ) → times x (range_with_len a n) + once_below x a ≡ once_below x (a + n)
times-range x a zero = let e : once_below x a ≡ once_below x (a + 0) = ap (once_below x) (omega arith) in omega (arith, e)
times-range x a (suc n) = let e : once_below x (a + 1 + n) ≡ once_below x (a + suc n) = ap (once_below x) (omega arith) in
    let s : once_below x (a + 1) ≡ once_below x a + same x a = ap (once_below x) (omega arith) ∙ once_below-suc x a in omega (arith, times-range x (a + 1) n, times-cons x a (range_with_len (a + 1) n), s, e)

pub length-range : (a n : ℕ) → length (range_with_len a n) ≡ n
length-range a zero = refl
length-range a (suc n) = ap suc (length-range (a + 1) n)

-- the least number is in the list
pub least_there : (xs : List ℕ) → 0 < length xs → 0 < times (least xs) xs
least_there [] h = absurd (omega arith)
least_there (x ∷ []) h = omega (arith, same_itself x)
least_there (x ∷ (y ∷ ys)) h =
    dite (dec_le x (least (y ∷ ys)))
    (λ le. let e : x ≡ min x (least (y ∷ ys)) = omega arith in subst (λ (z : ℕ). 0 < times z (x ∷ (y ∷ ys))) e (omega (arith, same_itself x, times-cons x x (y ∷ ys))))
    (λ gt. let e : least (y ∷ ys) ≡ min x (least (y ∷ ys)) = omega arith in subst (λ (z : ℕ). 0 < times z (x ∷ (y ∷ ys))) e (omega (arith, least_there (y ∷ ys) (omega arith), times-cons (least (y ∷ ys)) x (y ∷ ys))))

-- the least number of two lists together
pub least-append : (xs ys : List ℕ) → 0 < length xs → 0 < length ys → least (xs ++ ys) ≡ min (least xs) (least ys)
least-append [] ys h k = absurd (omega arith)
least-append (x ∷ []) [] h k = absurd (omega arith)
least-append (x ∷ []) (y ∷ ys) h k = refl
least-append (x ∷ (z ∷ xs)) ys h k = omega (arith, least-append (z ∷ xs) ys (omega arith) k)

pub nowhere : {X : Type 0} (j : ℕ) (x : X) → get_elem? [] j ≡ some x → ⊥
nowhere j x e = some-ne-none x (sym e)

same_sym : (x y : ℕ) → same x y ≡ same y x
same_sym x y = grind (arith, nat_tests)

-- the sum of f over the numbers below n
abbrev sum_below : (ℕ → ℕ) → ℕ → ℕ
sum_below f zero = 0
sum_below f (suc n) = sum_below f n + f n

sum_below-is : (f g : ℕ → ℕ) → ((x : ℕ) → f x ≡ g x) → (n : ℕ) → sum_below f n ≡ sum_below g n
sum_below-is f g h zero = refl
sum_below-is f g h (suc n) = omega (arith, sum_below-is f g h n, h n)

sum_below-plus : (f g : ℕ → ℕ) (n : ℕ) → sum_below (λ x. f x + g x) n ≡ sum_below f n + sum_below g n
sum_below-plus f g zero = refl
sum_below-plus f g (suc n) = omega (arith, sum_below-plus f g n)

sum_below-same : (y n : ℕ) → sum_below (λ x. same x y) n ≡ once_below y n
sum_below-same y zero = sym (once_below-out y 0 (omega arith))
sum_below-same y (suc n) = omega (arith, sum_below-same y n, once_below-suc y n, same_sym n y)

sum_below-none : (n : ℕ) → sum_below (λ _. 0) n ≡ 0
sum_below-none zero = refl
sum_below-none (suc n) = omega (arith, sum_below-none n)

sum_below-le : (f : ℕ → ℕ) (n : ℕ) → ((x : ℕ) → f x ≤ 1) → sum_below f n ≤ n
sum_below-le f zero h = omega arith
sum_below-le f (suc n) h = omega (arith, sum_below-le f n h, h n)

sum_below-full : (f : ℕ → ℕ) (n : ℕ) → ((x : ℕ) → f x ≤ 1) → sum_below f n ≡ n → (w : ℕ) → w < n → 0 < f w
sum_below-full f zero h e w lt = absurd (omega arith)
sum_below-full f (suc n) h e w lt = dite (ℕ_discrete w n)
    (λ s. subst (λ (z : ℕ). 0 < f z) (sym s) (omega (arith, sum_below-le f n h, h n)))
    (λ ne. sum_below-full f n h (omega (arith, sum_below-le f n h, h n)) w (omega arith))

sum_below-each : (f : ℕ → ℕ) (n : ℕ) → ((x : ℕ) → f x ≤ 1) → ((w : ℕ) → w < n → 0 < f w) → sum_below f n ≡ n
sum_below-each f zero h each = refl
sum_below-each f (suc n) h each = omega (arith, h n, each n (omega arith), sum_below-each f n h (λ w lt. each w (omega arith)))

pub once_below-le : (x n : ℕ) → once_below x n ≤ 1
unfolding once_below
once_below-le x n = grind (arith, nat_tests)

pub same-le-once : (w x n : ℕ) → x < n → same w x ≤ once_below w n
unfolding once_below
same-le-once w x n lt = grind (arith, nat_tests)

module _ (n : ℕ) where
  length-sum : (xs : List ℕ) → ((x : ℕ) → times x xs ≤ once_below x n) → length xs ≡ sum_below (λ x. times x xs) n
  length-sum [] h = sym (sum_below-none n)
  length-sum (y ∷ ys) h =
      let more : sum_below (λ x. times x (y ∷ ys)) n ≡ sum_below (λ x. same x y + times x ys) n = sum_below-is (λ x. times x (y ∷ ys)) (λ x. same x y + times x ys) (λ x. times-cons x y ys) n in
      omega (arith, more, sum_below-plus (λ x. same x y) (λ x. times x ys) n, sum_below-same y n, h y, times-cons y y ys, same_itself y, once_below-le y n, length-sum ys (λ x. omega (arith, h x, times-cons x y ys)))

  -- A list of numbers below n, none twice, has n of them exactly where it has each
  pub has_each : (xs : List ℕ) → ((x : ℕ) → times x xs ≤ once_below x n) → length xs ≡ n → (w : ℕ) → w < n → 0 < times w xs
  has_each xs h e w lt = sum_below-full (λ x. times x xs) n (λ x. omega (arith, h x, once_below-le x n)) (omega (arith, length-sum xs h)) w lt

  pub has_count : (xs : List ℕ) → ((x : ℕ) → times x xs ≤ once_below x n) → ((w : ℕ) → w < n → 0 < times w xs) → length xs ≡ n
  has_count xs h each = omega (arith, length-sum xs h, sum_below-each (λ x. times x xs) n (λ x. omega (arith, h x, once_below-le x n)) each)
