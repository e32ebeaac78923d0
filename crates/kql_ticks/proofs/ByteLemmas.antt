-- The bytes of printed datetimes and timespans.
use Rattle.std.proofs.Common.{◌≡◌, ℕ, zero, suc, ◌+◌, ◌/◌, ◌%◌, ◌<◌, ◌==◌, true, List, [], ◌∷◌, ◌++◌, length, get_or, refl, arith, inl, inr, ℤ, pos, negsuc}
use Rattle.std.specs.List.{AllPass}
use Rattle.std.specs.Prelude.{IsAscii, IsUtf8}
use Rattle.std.proofs.lemmas.Bool.{cases_Bool, cases_lt}
use Rattle.std.proofs.lemmas.Bool.Decides.{nat_tests}
use Rattle.std.proofs.lemmas.List.Elements.{All-append, All-cons, All-nil}
use Rattle.std.proofs.lemmas.List.{get_or_past}
use Rattle.std.proofs.lemmas.Str.{IsUtf8-from_ascii}
use Rattle.kql_ticks.specs.Days.{year_on, month_on, day_on}
use Rattle.kql_ticks.specs.Periods.{day_at}
use Rattle.kql_ticks.specs.Texts.{clock_text, colon, dash, date_text, days_text, digits, dot, fraction_text, is_of_time, length_text, letter_t, letter_z, moment_text, span_text, width_of}

pass-none : AllPass is_of_time []
pass-none = All-nil (λ b. is_of_time b ≡ true)

pass-one : (b : ℕ) → is_of_time b ≡ true → AllPass is_of_time (b ∷ [])
pass-one b e = All-cons (λ b. is_of_time b ≡ true) b [] e pass-none

pass-append : (xs ys : List ℕ) → AllPass is_of_time xs → AllPass is_of_time ys → AllPass is_of_time (xs ++ ys)
pass-append xs ys a b = All-append (λ b. is_of_time b ≡ true) xs ys a b

pass-digit : (n : ℕ) → is_of_time (48 + n % 10) ≡ true
pass-digit n = grind (arith, nat_tests)

pass-digits : (w n : ℕ) → AllPass is_of_time (digits w n)
unfolding digits
pass-digits zero n = pass-none
pass-digits (suc w) n = pass-append (digits w (n / 10)) _ (pass-digits w (n / 10)) (pass-one (48 + n % 10) (pass-digit n))

pass-first : (b : ℕ) (xs : List ℕ) → is_of_time b ≡ true → AllPass is_of_time xs → AllPass is_of_time (b ∷ xs)
pass-first b xs e a = All-cons (λ b. is_of_time b ≡ true) b xs e a

pass-date : (n : ℕ) → AllPass is_of_time (date_text n)
unfolding date_text
pass-date n =
    pass-append _ _ (pass-append _ _ (pass-append _ _ (pass-append _ _ (pass-digits 4 (year_on n)) (pass-one dash refl)) (pass-digits 2 (month_on n))) (pass-one dash refl)) (pass-digits 2 (day_on n))

pass-clock : (t : ℕ) → AllPass is_of_time (clock_text t)
unfolding clock_text
pass-clock t =
    pass-append _ _ (pass-append _ _ (pass-append _ _ (pass-append _ _ (pass-digits 2 (t / 36000000000)) (pass-one colon refl)) (pass-digits 2 (t % 36000000000 / 600000000))) (pass-one colon refl)) (pass-digits 2 (t % 600000000 / 10000000))

pub moment-bytes : (t : ℕ) → AllPass is_of_time (moment_text t)
unfolding moment_text
moment-bytes t =
    pass-append _ _ (pass-append _ _ (pass-append _ _ (pass-append _ _ (pass-append _ _ (pass-date (day_at t)) (pass-one letter_t refl)) (pass-clock (t % 864000000000))) (pass-one dot refl)) (pass-digits 7 (t % 10000000))) (pass-one letter_z refl)

pass-days : (d : ℕ) → AllPass is_of_time (days_text d)
unfolding days_text
pass-days d = elim (cases_Bool (d == 0)) [
  | inl t ↦ rw t pass-none
  | inr f ↦ rw f (pass-append (digits (width_of d) d) _ (pass-digits (width_of d) d) (pass-one dot refl))
]

pass-fraction : (f : ℕ) → AllPass is_of_time (fraction_text f)
unfolding fraction_text
pass-fraction f = elim (cases_Bool (f == 0)) [
  | inl t ↦ rw t pass-none
  | inr n ↦ rw n (pass-first dot _ refl (pass-digits 7 f))
]

pass-length : (n : ℕ) → AllPass is_of_time (length_text n)
unfolding length_text
pass-length n = pass-append _ _ (pass-append _ _ (pass-days (n / 864000000000)) (pass-clock (n % 864000000000))) (pass-fraction (n % 10000000))

pub span-bytes : (z : ℤ) → AllPass is_of_time (span_text z)
span-bytes (pos n) = pass-length n
span-bytes (negsuc n) = pass-first dash _ refl (pass-length (suc n))

below-128 : (b : ℕ) → is_of_time b ≡ true → b < 128
below-128 b e = grind (arith, nat_tests)

pass-ascii : (bs : List ℕ) → AllPass is_of_time bs → IsAscii bs
pass-ascii bs a i = elim (cases_lt i (length bs)) [
  | inl lt ↦ below-128 (get_or bs i 0) (a i 0 lt)
  | inr ge ↦ let past = get_or_past bs i 0 ge in omega arith
]

-- bytes of printed datetimes and timespans are a text
pub pass-utf8 : (bs : List ℕ) → AllPass is_of_time bs → IsUtf8 bs
pass-utf8 bs a = IsUtf8-from_ascii bs (pass-ascii bs a)
