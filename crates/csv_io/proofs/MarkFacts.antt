-- Bytes by the bits that tell which of them fail a test.
use Rattle.std.proofs.Common.{◌≡◌, ◌≢◌, ◌≤◌, ◌<◌, ◌+◌, ◌-◌, ◌*◌, ◌/◌, ◌^◌, ◌∷◌, ◌∙◌, ℕ, zero, suc, Bool, true, false, not, List, [], length, drop, take, get_or, map, refl, sym, ap, subst, add-one, arith, drop-drop, inl, inr, w64}
use Rattle.std.specs.Int.{trailing_zeros}
use Rattle.std.specs.List.{prefix_len}
use Rattle.std.proofs.Math.Nat.{div-div-eq-div-mul, pow-suc, zero-div}
use Rattle.std.proofs.lemmas.Bool.{cases_Bool, cases_eq, cases_lt}
use Rattle.std.proofs.lemmas.List.{drop-take}
use Rattle.std.proofs.lemmas.List.Sums.{prefix_len-le-length, prefix_len_passes, prefix_len_stops}
use Rattle.std.proofs.lemmas.Simd.{get_or-chunk, length-chunk, trailing_mask_l}
use lib.Lanes.{mask_l}
use Rattle.csv_io.specs.Runs.{IsAhead, IsRun, is_plain, marks}

abbrev Passes : (ℕ → Bool) → List ℕ → ℕ → Type 0
Passes q xs n = (k : ℕ) → k < n → q (get_or xs k 0) ≡ true

passes-more : (q : ℕ → Bool) (x : ℕ) (xs : List ℕ) → q x ≡ true → Passes q xs (length xs) → Passes q (x ∷ xs) (length (x ∷ xs))
passes-more q x xs t more zero lt = t
passes-more q x xs t more (suc k) lt = more k (omega arith)

passes-less : (q : ℕ → Bool) (x : ℕ) (xs : List ℕ) → Passes q (x ∷ xs) (length (x ∷ xs)) → Passes q xs (length xs)
passes-less q x xs all k lt = all (suc k) (omega arith)

-- where there is no mark, each byte passes
none-marked : (q : ℕ → Bool) (xs : List ℕ) → marks q xs ≡ 0 → Passes q xs (length xs)
none-marked q [] e = λ k lt. absurd (omega arith)
none-marked q (x ∷ xs) e = elim (cases_Bool (q x)) [
  | inl t ↦ let w = rw t at e in passes-more q x xs t (none-marked q xs (omega arith))
  | inr f ↦ let w = rw f at e in absurd (omega arith)
]

-- and where each passes, there is no mark
all-pass : (q : ℕ → Bool) (xs : List ℕ) → Passes q xs (length xs) → marks q xs ≡ 0
all-pass q [] all = refl
all-pass q (x ∷ xs) all =
    let first : q x ≡ true = all zero (omega arith) in
    let more = all-pass q xs (passes-less q x xs all) in
    rw (first, more) refl

marks-is : (q : ℕ → Bool) (xs : List ℕ) → marks q xs ≡ mask_l (map (λ x. not (q x)) xs)
marks-is q [] = refl
marks-is q (x ∷ xs) = elim (cases_Bool (q x)) [ inl t ↦ rw (t, marks-is q xs) refl | inr f ↦ rw (f, marks-is q xs) refl ]

twice-true : (b : Bool) → not (not b) ≡ true → b ≡ true
twice-true true e = refl
twice-true false e = cc

twice-false : (b : Bool) → not (not b) ≡ false → b ≡ false
twice-false false e = refl
twice-false true e = cc

-- the lowest mark is that of the first byte that fails
abbrev IsFirst : (ℕ → Bool) → List ℕ → ℕ → Type 0
IsFirst q xs r = (r < length xs) × Passes q xs r × (q (get_or xs r 0) ≡ false)

lowest-by : (q : ℕ → Bool) (xs : List ℕ) (r : ℕ) → r ≡ prefix_len (λ x. not (not (q x))) xs → marks q xs ≢ 0 → IsFirst q xs r
lowest-by q xs r e some =
    let t : ℕ → Bool = λ x. not (not (q x)) in
    let passes : Passes q xs r = λ k lt. twice-true (q (get_or xs k 0)) (prefix_len_passes t xs k 0 (omega (arith, e))) in
    let short : r < length xs = elim (cases_eq r (length xs)) [
      | inl whole ↦ absurd (some (all-pass q xs (λ k lt. passes k (omega (arith, whole)))))
      | inr other ↦ omega (arith, e, prefix_len-le-length t xs, other)
    ] in
    let stop = ap (λ j. t (get_or xs j 0)) e ∙ prefix_len_stops t xs 0 (omega (arith, e, short)) in
    (short, passes, twice-false (q (get_or xs r 0)) stop)

pub lowest : (q : ℕ → Bool) (xs : List ℕ) (m : ℕ) → m ≡ marks q xs → m ≢ 0 → length xs ≤ 64 → IsFirst q xs (trailing_zeros w64 m)
lowest q xs m e some few =
    let is : m ≡ mask_l (map (λ x. not (q x)) xs) = e ∙ marks-is q xs in
    let positive : 0 < mask_l (map (λ x. not (q x)) xs) = omega (arith, is, some) in
    lowest-by q xs (trailing_zeros w64 m) (ap (λ n. trailing_zeros w64 n) is ∙ trailing_mask_l (λ x. not (q x)) 64 xs few positive) (λ z. some (e ∙ z))

-- without the marks of the first bytes
zero-over : (n : ℕ) → 0 / n ≡ 0
zero-over n = zero-div n

half : (q : ℕ → Bool) (x : ℕ) (xs : List ℕ) → marks q (x ∷ xs) / 2 ≡ marks q xs
half q x xs = elim (cases_Bool (q x)) [ inl t ↦ rw t (omega arith) | inr f ↦ rw f (omega arith) ]

shifted : (q : ℕ → Bool) (r : ℕ) (xs : List ℕ) → marks q xs / 2 ^ r ≡ marks q (drop r xs)
shifted q zero xs = omega arith
shifted q (suc r) [] = zero-over (2 ^ suc r)
shifted q (suc r) (x ∷ xs) =
    let twice : 2 ^ suc r ≡ 2 * 2 ^ r = omega (arith, pow-suc 2 r) in
    ap (λ n. marks q (x ∷ xs) / n) twice ∙ (sym (div-div-eq-div-mul (marks q (x ∷ xs)) 2 (2 ^ r)) ∙ (ap (λ n. n / 2 ^ r) (half q x xs) ∙ shifted q r xs))

rest-marks : (q : ℕ → Bool) (text : List ℕ) (at left r : ℕ) → r + 1 ≤ left → marks q (take left (drop at text)) / 2 ^ r / 2 ≡ marks q (take (left - r - 1) (drop (at + r + 1) text))
rest-marks q text at left r le =
    let sum : (r + 1) + (left - r - 1) ≡ left = omega arith in
    let place : at + (r + 1) ≡ at + r + 1 = omega arith in
    let twice : 2 ^ r * 2 ≡ 2 ^ (r + 1) = sym (ap (λ k. 2 ^ k) (add-one r) ∙ pow-suc 2 r) in
    div-div-eq-div-mul (marks q (take left (drop at text))) (2 ^ r) 2
    ∙ (ap (λ n. marks q (take left (drop at text)) / n) twice
    ∙ (shifted q (r + 1) (take left (drop at text))
    ∙ ap (λ xs. marks q xs) (ap (λ n. drop (r + 1) (take n (drop at text))) (sym sum)
    ∙ (drop-take (r + 1) (left - r - 1) (drop at text)
    ∙ ap (λ xs. take (left - r - 1) xs) (drop-drop (r + 1) at text ∙ ap (λ n. drop n text) place)))))

-- ---- the bytes ahead of a place

part-size : (text : List ℕ) (at left : ℕ) → at + left ≤ length text → length (take left (drop at text)) ≡ left
part-size text at left le = length-chunk at left text le

-- none of them ends a field
pub run-past : (text : List ℕ) (at bits left end : ℕ) → IsAhead text at bits left → bits ≡ 0 → IsRun is_plain text (at + left) end → IsRun is_plain text at end
run-past text at bits left end a e run =
    let none = none-marked is_plain (take left (drop at text)) (sym a.2 ∙ e) in
    let size = part-size text at left a.1 in
    record {
      ordered = omega (arith, run.ordered);
      within = run.within;
      pass = λ k from to. elim (cases_lt k (at + left)) [
        | inl early ↦
            let back : at + (k - at) ≡ k = omega arith in
            subst (λ j. is_plain (get_or text j 0) ≡ true) back
            (subst (λ b. is_plain b ≡ true) (get_or-chunk at left text (k - at) 0 (omega arith)) (none (k - at) (omega (arith, size))))
        | inr late ↦ run.pass k (omega arith) to
      ];
      stops = run.stops;
    }

-- the first that ends a field, and those behind it
pub run-first : (text : List ℕ) (at bits left : ℕ) → IsAhead text at bits left → bits ≢ 0 → IsRun is_plain text at (at + trailing_zeros w64 bits) × (trailing_zeros w64 bits < left)
run-first text at bits left a some =
    let r = trailing_zeros w64 bits in
    let size = part-size text at left a.1 in
    let first = lowest is_plain (take left (drop at text)) bits a.2 some (omega (arith, size, a.0)) in
    let short : r < left = omega (arith, first.0, size) in (
      record {
        ordered = omega arith;
        within = omega (arith, short, a.1);
        pass = λ k from to.
            let back : at + (k - at) ≡ k = omega arith in
            subst (λ j. is_plain (get_or text j 0) ≡ true) back
            (subst (λ b. is_plain b ≡ true) (get_or-chunk at left text (k - at) 0 (omega (arith, short))) (first.1 (k - at) (omega arith)));
        stops = λ lt. subst (λ b. is_plain b ≡ false) (get_or-chunk at left text r 0 short) first.2;
      },
      short,
    )

pub ahead-next : (text : List ℕ) (at bits left r : ℕ) → IsAhead text at bits left → r < left → IsAhead text (at + r + 1) (bits / 2 ^ r / 2) (left - r - 1)
ahead-next text at bits left r a lt = (omega (arith, a.0), omega (arith, a.1), ap (λ n. n / 2 ^ r / 2) a.2 ∙ rest-marks is_plain text at left r (omega arith))
