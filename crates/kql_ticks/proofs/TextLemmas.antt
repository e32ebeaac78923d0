-- The digits of a number, as the code writes them.
use Rattle.std.proofs.Common.{◌≡◌, ℕ, zero, suc, ◌+◌, ◌-◌, ◌/◌, ◌%◌, ◌<◌, List, [], ◌∷◌, ◌++◌, refl, sym, append_assoc, append-nil, arith}
use Rattle.kql_ticks.specs.Texts.{digits}

pub digits-none : (xs : List ℕ) (w n : ℕ) → w ≡ 0 → xs ≡ xs ++ digits w n
unfolding digits
digits-none xs zero n e = sym (append-nil xs)
digits-none xs (suc w) n e = cc

pub digits-more : (xs : List ℕ) (w n : ℕ) → 0 < w → xs ++ digits w n ≡ xs ++ digits (w - 1) (n / 10) ++ (48 + n % 10) ∷ []
unfolding digits
digits-more xs zero n h = absurd (omega arith)
digits-more xs (suc w) n h = let e : suc w - 1 ≡ w = omega arith in rw e (sym (append_assoc xs (digits w (n / 10)) _))

pub ruleset digit_steps = (digits-none, digits-more)

-- a number below 100 by its digits, and numbers of four and seven digits
pub digits-two : (n : ℕ) → digits 2 n ≡ (48 + n / 10 % 10) ∷ (48 + n % 10) ∷ []
unfolding digits
digits-two n = refl

pub digits-four : (n : ℕ) → digits 4 n ≡ (48 + n / 1000 % 10) ∷ (48 + n / 100 % 10) ∷ (48 + n / 10 % 10) ∷ (48 + n % 10) ∷ []
unfolding digits
digits-four n =
    let hundred : n / 10 / 10 ≡ n / 100 = omega arith in
    let thousand : n / 100 / 10 ≡ n / 1000 = omega arith in
    rw (hundred, thousand) refl

pub digits-seven : (n : ℕ) → digits 7 n ≡ (48 + n / 1000000 % 10) ∷ (48 + n / 100000 % 10) ∷ (48 + n / 10000 % 10) ∷ (48 + n / 1000 % 10) ∷ (48 + n / 100 % 10) ∷ (48 + n / 10 % 10) ∷ (48 + n % 10) ∷ []
unfolding digits
digits-seven n =
    let hundred : n / 10 / 10 ≡ n / 100 = omega arith in
    let thousand : n / 100 / 10 ≡ n / 1000 = omega arith in
    let four : n / 1000 / 10 ≡ n / 10000 = omega arith in
    let five : n / 10000 / 10 ≡ n / 100000 = omega arith in
    let six : n / 100000 / 10 ≡ n / 1000000 = omega arith in
    rw (hundred, thousand, four, five, six) refl

pub ruleset fixed_digits = (digits-two, digits-four, digits-seven)
