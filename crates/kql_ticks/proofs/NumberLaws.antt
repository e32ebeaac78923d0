-- Numbers as decimal digits, read from the left, and shares of a unit, read from the right.
use Rattle.std.proofs.Common.{◌≡◌, ℕ, zero, suc, ◌+◌, ◌-◌, ◌*◌, ◌/◌, ◌%◌, ◌<◌, ◌≤◌, ◌==◌, nat_le, Bool, true, false, if◌then◌else◌, List, [], ◌∷◌, length, get_or, drop, Option, Some, None, inl, inr, ◌^◌, refl, sym, ap, ◌∙◌, arith}
use Rattle.std.specs.Char.{is_ascii_digit}
use Rattle.std.specs.Str.{all_ascii_digits}
use Rattle.std.proofs.Math.Nat.{mul-mod_left, mul-div_left, add-mul-mod_self_right, mod-eq_of_lt, mul-lt-mul_of_pos_right, mul-pos, pow-suc, one-le-pow}
use Rattle.std.proofs.lemmas.Bool.{cases_lt}
use Rattle.std.proofs.lemmas.Bool.Decides.{nat_tests}
use Rattle.std.proofs.lemmas.Nat.{div-add-mod'}
use Rattle.std.proofs.lemmas.List.{at_drop_more, at_drop_all}
use Rattle.kql_ticks.specs.Numbers.{◌>>=◌, in_bounds, number, share, value, exact}

-- ---- numbers

-- the number that digits go on to write after those of a
unfoldable pub number_from : ℕ → List ℕ → Option ℕ
number_from a [] = Some a
number_from a (b ∷ bs) = if is_ascii_digit b then number_from (10 * a + (b - 48)) bs else None

from_digits : (a p v c : ℕ) → (10 * a + c) * p + v ≡ a * (p * 10) + (c * p + v)
from_digits a p v c = omega arith

number_by_cases : (a b : ℕ) (bs : List ℕ) (x y : Bool) → is_ascii_digit b ≡ x → all_ascii_digits bs ≡ y → number_from (10 * a + (b - 48)) bs ≡ (if all_ascii_digits bs then Some ((10 * a + (b - 48)) * 10 ^ length bs + value bs) else None) → number_from a (b ∷ bs) ≡ (if all_ascii_digits (b ∷ bs) then Some (a * 10 ^ length (b ∷ bs) + value (b ∷ bs)) else None)
unfolding number_from value
number_by_cases a b bs true true h k e =
    let rest = rw k at e in
    rw (h, k, pow-suc 10 (length bs)) (rest ∙ ap Some (from_digits a (10 ^ length bs) (value bs) (b - 48)))
number_by_cases a b bs true false h k e = let rest = rw k at e in rw (h, k) rest
number_by_cases a b bs false y h k e = rw h

number_from-nil : (a : ℕ) → number_from a [] ≡ Some (a * 1 + value [])
unfolding number_from value
number_from-nil a = ap Some (omega arith)

number_from-is : (a : ℕ) (bs : List ℕ) → number_from a bs ≡ (if all_ascii_digits bs then Some (a * 10 ^ length bs + value bs) else None)
number_from-is a [] = number_from-nil a
number_from-is a (b ∷ bs) =
    number_by_cases a b bs (is_ascii_digit b) (all_ascii_digits bs) refl refl (number_from-is (10 * a + (b - 48)) bs)

number_whole : (t : List ℕ) (x : Bool) → 0 < length t → all_ascii_digits t ≡ x → number_from 0 t ≡ (if all_ascii_digits t then Some (0 * 10 ^ length t + value t) else None) → number t ≡ (number_from 0 t >>= in_bounds)
unfolding number
number_whole t true h k e =
    let some : nat_le 1 (length t) ≡ true = grind (arith, nat_tests) in
    let rest = rw k at e in
    let zero : 0 * 10 ^ length t + value t ≡ value t = omega arith in
    rw (some, k, rest, zero)
number_whole t false h k e =
    let some : nat_le 1 (length t) ≡ true = grind (arith, nat_tests) in
    let rest = rw k at e in
    rw (some, k, rest)

pub number-some : (t : List ℕ) → 0 < length t → number t ≡ (number_from 0 t >>= in_bounds)
number-some t h = number_whole t (all_ascii_digits t) h refl (number_from-is 0 t)

pub number-none : (t : List ℕ) → length t ≡ 0 → number t ≡ None
unfolding number
number-none t h = rw h

number_from-digit : (a b : ℕ) (bs : List ℕ) → is_ascii_digit b ≡ true → number_from a (b ∷ bs) ≡ number_from (10 * a + (b - 48)) bs
unfolding number_from
number_from-digit a b bs h = rw h

number_from-other : (a b : ℕ) (bs : List ℕ) → is_ascii_digit b ≡ false → number_from a (b ∷ bs) ≡ None
unfolding number_from
number_from-other a b bs h = rw h

number_from-end : (a : ℕ) → number_from a [] ≡ Some a
unfolding number_from
number_from-end a = refl

-- one digit more
pub number_from_more : (a i : ℕ) (t : List ℕ) → i < length t → is_ascii_digit (get_or t i 0) ≡ true → number_from a (drop i t) ≡ number_from (10 * a + (get_or t i 0 - 48)) (drop (i + 1) t)
number_from_more a i t h d = at_drop_more (number_from a) t i 0 h ∙ number_from-digit a _ _ d

pub number_from_other : (a i : ℕ) (t : List ℕ) → i < length t → is_ascii_digit (get_or t i 0) ≡ false → number_from a (drop i t) ≡ None
number_from_other a i t h d = at_drop_more (number_from a) t i 0 h ∙ number_from-other a _ _ d

pub number_from_all : (a i : ℕ) (t : List ℕ) → length t ≤ i → number_from a (drop i t) ≡ Some a
number_from_all a i t h = at_drop_all (number_from a) t i h ∙ number_from-end a

in_bounds-large : (n : ℕ) → 10000000000000000000 ≤ n → in_bounds n ≡ None
in_bounds-large n h = grind (arith, nat_tests)

pub in_bounds-small : (n : ℕ) → n < 10000000000000000000 → in_bounds n ≡ Some n
in_bounds-small n h = grind (arith, nat_tests)

number_from-large : (a : ℕ) (bs : List ℕ) → 10000000000000000000 ≤ a → (number_from a bs >>= in_bounds) ≡ None
unfolding number_from
number_from-large a [] h = in_bounds-large a h
number_from-large a (b ∷ bs) h =
    elim (is_ascii_digit b) as (λ v. ((if v then number_from (10 * a + (b - 48)) bs else None) >>= in_bounds) ≡ None) [
      | true ↦ number_from-large (10 * a + (b - 48)) bs (omega arith)
      | false ↦ refl
    ]

-- a digit more is too much
pub number_from_much : (a i : ℕ) (t : List ℕ) → i < length t → 1000000000000000000 ≤ a → is_ascii_digit (get_or t i 0) ≡ true → (number_from a (drop i t) >>= in_bounds) ≡ None
number_from_much a i t h large d =
    rw (number_from_more a i t h d) (number_from-large (10 * a + (get_or t i 0 - 48)) (drop (i + 1) t) (omega arith))

-- ---- shares

-- a tenth of a number, where that is whole
abbrev pub tenth : ℕ → Option ℕ
tenth n = if n % 10 == 0 then Some (n / 10) else None

-- a share, digit by digit from the right: the first digit and the share of the others give ten times as much
unfoldable pub shared : ℕ → List ℕ → Option ℕ
shared unit [] = Some 0
shared unit (b ∷ bs) = if is_ascii_digit b then shared unit bs >>= (λ n. tenth ((b - 48) * unit + n)) else None

share-digit : (unit b n : ℕ) (bs : List ℕ) → is_ascii_digit b ≡ true → shared unit bs ≡ Some n → ((b - 48) * unit + n) % 10 ≡ 0 → shared unit (b ∷ bs) ≡ Some (((b - 48) * unit + n) / 10)
unfolding shared
share-digit unit b n bs d s e = rw (d, s) (grind (arith, nat_tests))

share-broken : (unit b n : ℕ) (bs : List ℕ) → is_ascii_digit b ≡ true → shared unit bs ≡ Some n → 0 < ((b - 48) * unit + n) % 10 → shared unit (b ∷ bs) ≡ None
unfolding shared
share-broken unit b n bs d s e = rw (d, s) (grind (arith, nat_tests))

share-other : (unit b : ℕ) (bs : List ℕ) → is_ascii_digit b ≡ false → shared unit (b ∷ bs) ≡ None
unfolding shared
share-other unit b bs d = rw d

share-none : (unit b : ℕ) (bs : List ℕ) → shared unit bs ≡ None → shared unit (b ∷ bs) ≡ None
unfolding shared
share-none unit b bs h =
    rw h (elim (is_ascii_digit b) as (λ v. ◌≡◌ {A = Option ℕ} (if v then None else None) None) [ true ↦ refl | false ↦ refl ])

pub share_all : (unit : ℕ) (t : List ℕ) → shared unit (drop (length t) t) ≡ Some 0
unfolding shared
share_all unit t = at_drop_all (shared unit) t (length t) (omega arith)

pub share_more : (unit i n : ℕ) (t : List ℕ) → 0 < i → i ≤ length t → shared unit (drop i t) ≡ Some n → is_ascii_digit (get_or t (i - 1) 0) ≡ true → ((get_or t (i - 1) 0 - 48) * unit + n) % 10 ≡ 0 → shared unit (drop (i - 1) t) ≡ Some (((get_or t (i - 1) 0 - 48) * unit + n) / 10)
share_more unit i n t pos le s d e =
    let back : i - 1 + 1 ≡ i = omega arith in
    rw back at (at_drop_more (shared unit) t (i - 1) 0 (omega arith)) ∙ share-digit unit _ n (drop i t) d s e

pub share_none : (unit i : ℕ) (t : List ℕ) → shared unit (drop i t) ≡ None → shared unit t ≡ None
share_none unit zero t h = h
share_none unit (suc i) [] h = h
share_none unit (suc i) (b ∷ bs) h = share-none unit b bs (share_none unit i bs h)

pub share_broken : (unit i n : ℕ) (t : List ℕ) → 0 < i → i ≤ length t → shared unit (drop i t) ≡ Some n → is_ascii_digit (get_or t (i - 1) 0) ≡ true → 0 < ((get_or t (i - 1) 0 - 48) * unit + n) % 10 → shared unit t ≡ None
share_broken unit i n t pos le s d e =
    let back : i - 1 + 1 ≡ i = omega arith in
    share_none unit (i - 1) t (rw back at (at_drop_more (shared unit) t (i - 1) 0 (omega arith)) ∙ share-broken unit _ n (drop i t) d s e)

pub share_other : (unit i : ℕ) (t : List ℕ) → 0 < i → i ≤ length t → is_ascii_digit (get_or t (i - 1) 0) ≡ false → shared unit t ≡ None
share_other unit i t pos le d =
    share_none unit (i - 1) t (at_drop_more (shared unit) t (i - 1) 0 (omega arith) ∙ share-other unit _ _ d)

-- ---- a share digit by digit is the share

pub exact-some : (q n m : ℕ) → 0 < m → n ≡ q * m → exact n m ≡ Some q
exact-some q n m h e =
    let r : n % m ≡ 0 = rw e (mul-mod_left q m) in
    let d : n / m ≡ q = rw e (mul-div_left q h) in
    rw (r, d)

exact-none : (n m : ℕ) → 0 < n % m → exact n m ≡ None
exact-none n m h = grind (arith, nat_tests)

tens : (x a r p : ℕ) → x ≡ 10 * a + r → x * p ≡ r * p + a * (p * 10)
tens x a r p e = rw e (omega arith)

tenth-exact : (x p : ℕ) → 0 < p → tenth x ≡ exact (x * p) (p * 10)
tenth-exact x p h =
    elim (cases_lt 0 (x % 10)) [
      | inl lt ↦ let a = x / 10 in
          let r = x % 10 in
          let whole : x * p ≡ r * p + a * (p * 10) = tens x a r p (omega arith) in
          let small : r * p < p * 10 = omega (arith, mul-lt-mul_of_pos_right {m = r} {n = 10} {k = p} (omega arith) h) in
          let m : (x * p) % (p * 10) ≡ r * p = rw whole (add-mul-mod_self_right (r * p) a (p * 10) ∙ mod-eq_of_lt small) in
          let some : 0 < r * p = mul-pos {m = r} {n = p} lt h in
          let none : tenth x ≡ None = grind (arith, nat_tests) in
          none ∙ sym (exact-none (x * p) (p * 10) (omega arith))
      | inr ge ↦ let zero : x % 10 ≡ 0 = omega arith in
          let some : tenth x ≡ Some (x / 10) = rw zero in
          some ∙ sym (exact-some (x / 10) (x * p) (p * 10) (omega arith) (tens x (x / 10) 0 p (omega arith) ∙ omega arith))
    ]

not_tens : (y p : ℕ) → 0 < y % p → 0 < y % (p * 10)
not_tens y p h =
    elim (cases_lt 0 (y % (p * 10))) [
      | inl lt ↦ lt
      | inr ge ↦ let k = y / (p * 10) in
          let whole : y ≡ k * 10 * p = omega (arith, div-add-mod' y (p * 10)) in
          let zero : y % p ≡ 0 = rw whole (mul-mod_left (k * 10) p) in
          absurd (omega arith)
    ]

all_parts : (c p v unit q : ℕ) → v * unit ≡ q * p → (c * p + v) * unit ≡ (c * unit + q) * p
all_parts c p v unit q e = omega (arith, e)

-- one digit more
exact-more : (c p v unit : ℕ) → 0 < p → (exact (v * unit) p >>= (λ n. tenth (c * unit + n))) ≡ exact ((c * p + v) * unit) (p * 10)
exact-more c p v unit h =
    elim (cases_lt 0 ((v * unit) % p)) [
      | inl lt ↦ let parts : (c * p + v) * unit ≡ v * unit + (c * unit) * p = omega arith in
          let m : ((c * p + v) * unit) % p ≡ (v * unit) % p = rw parts (add-mul-mod_self_right (v * unit) (c * unit) p) in
          let some : 0 < ((c * p + v) * unit) % (p * 10) = not_tens ((c * p + v) * unit) p (omega arith) in
          rw (exact-none (v * unit) p lt) (sym (exact-none ((c * p + v) * unit) (p * 10) some))
      | inr ge ↦ let q = v * unit / p in
          let whole : v * unit ≡ q * p = omega (arith, div-add-mod' (v * unit) p) in
          let same : (c * p + v) * unit ≡ (c * unit + q) * p = all_parts c p v unit q whole in
          rw (exact-some q (v * unit) p h whole, same) (tenth-exact (c * unit + q) p h)
    ]

by_cases : (unit b : ℕ) (bs : List ℕ) (x y : Bool) → is_ascii_digit b ≡ x → all_ascii_digits bs ≡ y → shared unit bs ≡ share unit bs → shared unit (b ∷ bs) ≡ share unit (b ∷ bs)
unfolding shared share value
by_cases unit b bs true true h k e =
    let rest = rw k at e in
    rw (h, rest, k, pow-suc 10 (length bs)) (exact-more (b - 48) (10 ^ length bs) (value bs) unit (one-le-pow (length bs) 10 (omega arith)))
by_cases unit b bs true false h k e = let rest = rw k at e in rw (h, rest, k)
by_cases unit b bs false y h k e = rw h

shared-nil : (unit : ℕ) → shared unit [] ≡ share unit []
unfolding shared share value
shared-nil unit = sym (exact-some 0 (0 * unit) 1 (omega arith) (omega arith))

pub shared-is : (unit : ℕ) (bs : List ℕ) → shared unit bs ≡ share unit bs
shared-is unit [] = shared-nil unit
shared-is unit (b ∷ bs) = by_cases unit b bs (is_ascii_digit b) (all_ascii_digits bs) refl refl (shared-is unit bs)
