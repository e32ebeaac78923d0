-- What the digits of a number read as.
use Rattle.std.proofs.Common.{◌≡◌, ℕ, zero, suc, ◌+◌, ◌-◌, ◌*◌, ◌/◌, ◌%◌, ◌^◌, ◌<◌, nat_le, true, List, [], ◌∷◌, ◌++◌, length, Some, refl, arith, length-append}
use Rattle.std.proofs.Math.Nat.{pow-suc, one-le-pow}
use Rattle.std.specs.Char.{is_ascii_digit}
use Rattle.std.specs.Str.{all_ascii_digits}
use Rattle.std.proofs.lemmas.Bool.Decides.{nat_tests}
use Rattle.kql_ticks.specs.Numbers.{number, share, value}
use Rattle.kql_ticks.specs.Texts.{digits}
use Rattle.kql_ticks.proofs.NumberLaws.{in_bounds-small, exact-some}

-- each byte is a digit
abbrev pub AreDigits : List ℕ → Type 0
AreDigits [] = Unit {0}
AreDigits (b ∷ bs) = (is_ascii_digit b ≡ true) × AreDigits bs

pub AreDigits-append : (xs ys : List ℕ) → AreDigits xs → AreDigits ys → AreDigits (xs ++ ys)
AreDigits-append [] ys h k = k
AreDigits-append (x ∷ xs) ys h k = (h.0, AreDigits-append xs ys h.1 k)

pub is_digit-last : (n : ℕ) → is_ascii_digit (48 + n % 10) ≡ true
is_digit-last n = grind (arith, nat_tests)

pub AreDigits-digits : (w n : ℕ) → AreDigits (digits w n)
unfolding digits
AreDigits-digits zero n = tt
AreDigits-digits (suc w) n = AreDigits-append (digits w (n / 10)) _ (AreDigits-digits w (n / 10)) (is_digit-last n, tt)

pub length-digits : (w n : ℕ) → length (digits w n) ≡ w
unfolding digits
length-digits zero n = refl
length-digits (suc w) n = omega (arith, length-append (digits w (n / 10)) ((48 + n % 10) ∷ []), length-digits w (n / 10))

value-append : (xs : List ℕ) (b : ℕ) → value (xs ++ b ∷ []) ≡ 10 * value xs + (b - 48)
unfolding value
value-append [] b = omega arith
value-append (x ∷ xs) b =
    let e : length (xs ++ b ∷ []) ≡ suc (length xs) = omega (arith, length-append xs (b ∷ [])) in
    rw (e, pow-suc 10 (length xs)) (omega (arith, value-append xs b))

pub value-digits : (w n : ℕ) → n < 10 ^ w → value (digits w n) ≡ n
unfolding digits value
value-digits zero n h = omega arith
value-digits (suc w) n h =
    let p = pow-suc 10 w in
    let less : n / 10 < 10 ^ w = omega arith in
    omega (arith, value-append (digits w (n / 10)) (48 + n % 10), value-digits w (n / 10) less)

all_digits : (bs : List ℕ) → AreDigits bs → all_ascii_digits bs ≡ true
all_digits [] h = refl
all_digits (b ∷ bs) h = rw (h.0, all_digits bs h.1)

-- the digits of a number read as it
pub number-digits : (w n : ℕ) → 0 < w → n < 10 ^ w → n < 10000000000000000000 → number (digits w n) ≡ Some n
unfolding number
number-digits w n pos fits small =
    let long : nat_le 1 (length (digits w n)) ≡ true = grind (arith, nat_tests, length-digits w n) in
    rw (long, all_digits (digits w n) (AreDigits-digits w n), value-digits w n fits) (in_bounds-small n small)

-- a power of ten is shared out whole
pub share-value : (k unit : ℕ) (bs : List ℕ) → AreDigits bs → unit ≡ 10 ^ length bs * k → share unit bs ≡ Some (value bs * k)
unfolding share
share-value k unit bs h e =
    let p = 10 ^ length bs in
    let whole : value bs * unit ≡ value bs * k * p = rw e (omega arith) in
    rw (all_digits bs h) (exact-some (value bs * k) (value bs * unit) p (one-le-pow (length bs) 10 (omega arith)) whole)
