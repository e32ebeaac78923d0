-- The value of digits, one digit more.
use Rattle.std.proofs.Common.{◌≡◌, ◌≤◌, ◌<◌, ◌+◌, ◌-◌, ◌*◌, ℕ, Bool, true, false, ◌&&◌, List, [], ◌∷◌, length, get_or, take, cond, eqb, leb, None, refl, sym, ap, arith, min, inl, inr}
use Rattle.std.specs.List.{list_all}
use Rattle.std.proofs.lemmas.Grind.{fold-append}
use Rattle.std.proofs.lemmas.List.{take_more, take_all, get_or_past}
use Rattle.std.proofs.lemmas.List.Folds.{list_all_more, list_all_at}
use Rattle.std.proofs.lemmas.List.Sums.{prefix_len-le-length}
use Rattle.std.proofs.lemmas.Bool.{cases_lt}
use Rattle.std.proofs.lemmas.Bool.Decides.{nat_tests}
use Rattle.kql_lexer.specs.Bytes.{is_digit}
use Rattle.kql_lexer.specs.Numbers.{decimal, decimal_of, has_fraction, hex_value, hexadecimal, in_long, is_hex_digit}

pub decimal_nil : decimal [] ≡ 0
unfolding decimal
decimal_nil = refl

pub decimal_more : (xs : List ℕ) (i d : ℕ) → i < length xs → decimal (take (i + 1) xs) ≡ decimal (take i xs) * 10 + (get_or xs i d - 48)
unfolding decimal
decimal_more xs i d h = rw (take_more xs i d h) (fold-append (λ n c. n * 10 + (c - 48)) 0 (take i xs) (get_or xs i d ∷ []))

pub digit_bounds : (b : ℕ) → is_digit b ≡ true → 48 ≤ b
unfolding is_digit
digit_bounds b h = grind (arith, nat_tests)

too_great : (n : ℕ) → 9223372036854775807 < n → leb n 9223372036854775807 ≡ false
too_great n h = grind (arith, nat_tests)

pub long_min : (n v : ℕ) → v ≡ min n 18446744073709551615 → in_long v ≡ in_long n
long_min n v e = elim (cases_lt 9223372036854775807 n) [
  | inl h ↦ rw (too_great n h, too_great v (omega arith)) refl
  | inr h ↦ let same : v ≡ n = omega arith in ap in_long same
]

-- digits so far, and a byte that is none
pub decimal_stopped : (xs : List ℕ) (i d : ℕ) → i < length xs → is_digit (get_or xs i d) ≡ false → None ≡ decimal_of xs
unfolding decimal_of
decimal_stopped xs i d h e = rw (list_all_at is_digit xs i d h e) refl

pub decimal_read : (xs : List ℕ) (i v : ℕ) → length xs ≤ i → list_all is_digit (take i xs) ≡ true → v ≡ min (decimal (take i xs)) 18446744073709551615
    → in_long v ≡ decimal_of xs
unfolding decimal_of
decimal_read xs i v h a e =
    let whole : take i xs ≡ xs = take_all i xs h in
    let digits : list_all is_digit xs ≡ true = rw whole at a in
    let value : v ≡ min (decimal xs) 18446744073709551615 = rw whole at e in
    rw digits (long_min (decimal xs) v value)

pub ruleset decimal_steps = (decimal_nil, decimal_more, digit_bounds, decimal_stopped, decimal_read, list_all_more)

-- the same of hexadecimal digits
pub hexadecimal_nil : hexadecimal [] ≡ 0
unfolding hexadecimal
hexadecimal_nil = refl

pub hexadecimal_more : (xs : List ℕ) (i d : ℕ) → i < length xs → hexadecimal (take (i + 1) xs) ≡ hexadecimal (take i xs) * 16 + hex_value (get_or xs i d)
unfolding hexadecimal
hexadecimal_more xs i d h = rw (take_more xs i d h) (fold-append (λ n c. n * 16 + hex_value c) 0 (take i xs) (get_or xs i d ∷ []))

pub hex_bounds : (b : ℕ) → is_hex_digit b ≡ true → 48 ≤ b
unfolding is_hex_digit is_digit
hex_bounds b h = grind (arith, nat_tests)

pub hexadecimal_stopped : (xs : List ℕ) (i d : ℕ) → i < length xs → is_hex_digit (get_or xs i d) ≡ false → None ≡ cond (list_all is_hex_digit xs) (in_long (hexadecimal xs)) None
hexadecimal_stopped xs i d h e = rw (list_all_at is_hex_digit xs i d h e) refl

pub hexadecimal_read : (xs : List ℕ) (i v : ℕ) → length xs ≤ i → list_all is_hex_digit (take i xs) ≡ true → v ≡ min (hexadecimal (take i xs)) 18446744073709551615
    → in_long v ≡ cond (list_all is_hex_digit xs) (in_long (hexadecimal xs)) None
hexadecimal_read xs i v h a e =
    let whole : take i xs ≡ xs = take_all i xs h in
    let digits : list_all is_hex_digit xs ≡ true = rw whole at a in
    let value : v ≡ min (hexadecimal xs) 18446744073709551615 = rw whole at e in
    rw digits (long_min (hexadecimal xs) v value)

pub ruleset hexadecimal_steps = (hexadecimal_nil, hexadecimal_more, hex_bounds, hexadecimal_stopped, hexadecimal_read, list_all_more)

-- no digit stands past the end
no_and : (v : Bool) → (v && false) ≡ false
no_and true = refl
no_and false = refl

nul : is_digit 0 ≡ false
unfolding is_digit
nul = refl

pub fraction_past : (xs : List ℕ) (at : ℕ) → length xs - at < 2 → at ≤ length xs → false ≡ has_fraction xs at
unfolding has_fraction
fraction_past xs at h k = rw (get_or_past xs (at + 1) 0 (omega arith), nul) (sym (no_and (eqb (get_or xs at 0) 46)))

pub ruleset fraction_steps = (fraction_past)

pub ruleset number_steps = (prefix_len-le-length)
