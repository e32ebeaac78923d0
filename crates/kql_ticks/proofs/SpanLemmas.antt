-- The texts that timespans print as, read back.
use Rattle.std.proofs.Common.{◌≡◌, ℕ, suc, ◌+◌, ◌-◌, ◌*◌, ◌/◌, ◌%◌, ◌^◌, ◌<◌, ◌≤◌, ◌==◌, nat_le, not, inl, inr, true, false, List, [], ◌∷◌, ◌++◌, length, get_or, take, Some, refl, sym, ap, ◌∙◌, arith, length-append, append_assoc, append-nil, ℤ, pos, negsuc, neg_ℤ, FitsSigned, w64}
use Rattle.std.specs.Char.{is_ascii_digit}
use Rattle.std.specs.List.{position, prefix_len}
use Rattle.std.proofs.lemmas.Bool.{cases_lt}
use Rattle.std.proofs.lemmas.Bool.Decides.{nat_tests}
use Rattle.std.proofs.lemmas.List.{take_at, drop_at}
use Rattle.kql_ticks.specs.Forms.{time_in, days_in, clock_in, length_from, length_in, span_in}
use Rattle.kql_ticks.specs.Numbers.{number}
use Rattle.kql_ticks.specs.Ranges.{fit}
use Rattle.kql_ticks.specs.Texts.{digits, clock_text, days_text, fraction_text, length_text, span_text, width_of, dash, dot, colon}
use Rattle.kql_ticks.proofs.BackLemmas.{time-back, time-back_whole}
use Rattle.kql_ticks.proofs.DigitLemmas.{AreDigits, AreDigits-digits, length-digits, number-digits}

-- ---- the days

width_fits : (d : ℕ) → d < 100000000 → (0 < width_of d) × (d < 10 ^ width_of d)
width_fits d h = grind (arith, nat_tests)

days_in-some : (t : List ℕ) → 0 < length t → get_or t (length t - 1) 0 ≡ dot → days_in t ≡ number (take (length t - 1) t)
unfolding days_in
days_in-some [] h e = absurd (omega arith)
days_in-some (b ∷ bs) h e = let l : suc (length bs) - 1 ≡ length bs = omega arith in let f = rw l at e in rw (l, f)

last-append : (xs : List ℕ) (y : ℕ) → get_or (xs ++ y ∷ []) (length xs) 0 ≡ y
last-append [] y = refl
last-append (x ∷ xs) y = last-append xs y

days_text-none : (d : ℕ) → d ≡ 0 → days_text d ≡ []
unfolding days_text
days_text-none d e = rw e

days_text-some : (d : ℕ) → 0 < d → days_text d ≡ digits (width_of d) d ++ dot ∷ []
unfolding days_text
days_text-some d h = let e : (d == 0) ≡ false = grind (arith, nat_tests) in rw e

days_in-none : days_in [] ≡ Some 0
unfolding days_in
days_in-none = refl

days_back : (d : ℕ) → d < 100000000 → days_in (days_text d) ≡ Some d
days_back d h =
    elim (cases_lt 0 d) [
      | inl lt ↦ let w = width_fits d h in
          let ds = digits (width_of d) d in
          let e = length-append ds (dot ∷ []) in
          let back : length (ds ++ dot ∷ []) - 1 ≡ length ds = omega arith in
          let last : get_or (ds ++ dot ∷ []) (length (ds ++ dot ∷ []) - 1) 0 ≡ dot = rw back (last-append ds dot) in
          rw (days_text-some d lt) (days_in-some (ds ++ dot ∷ []) (omega arith) last
          ∙ rw (back, take_at ds (dot ∷ []) (length ds) refl) (number-digits (width_of d) d w.0 w.1 (omega arith)))
      | inr ge ↦ let z : d ≡ 0 = omega arith in rw (days_text-none d z) (days_in-none ∙ ap Some (sym z))
    ]

-- ---- the first colon

-- no byte is a colon
abbrev NoColon : List ℕ → Type 0
NoColon [] = Unit {0}
NoColon (b ∷ bs) = ((b == colon) ≡ false) × NoColon bs

NoColon-append : (xs ys : List ℕ) → NoColon xs → NoColon ys → NoColon (xs ++ ys)
NoColon-append [] ys h k = k
NoColon-append (x ∷ xs) ys h k = (h.0, NoColon-append xs ys h.1 k)

no_colon_digit : (b : ℕ) → is_ascii_digit b ≡ true → (b == colon) ≡ false
no_colon_digit b h = grind (arith, nat_tests)

NoColon-digits : (bs : List ℕ) → AreDigits bs → NoColon bs
NoColon-digits [] h = tt
NoColon-digits (b ∷ bs) h = (no_colon_digit b h.0, NoColon-digits bs h.1)

NoColon-days : (d : ℕ) → NoColon (days_text d)
NoColon-days d =
    elim (cases_lt 0 d) [
      | inl lt ↦ rw (days_text-some d lt) (NoColon-append _ _ (NoColon-digits _ (AreDigits-digits (width_of d) d)) (refl, tt))
      | inr ge ↦ rw (days_text-none d (omega arith)) tt
    ]

-- how many bytes stand before the first colon
abbrev before_colon : List ℕ → ℕ
before_colon t = prefix_len (λ b. not (b == colon)) t

before_colon-append : (xs ys : List ℕ) → NoColon xs → before_colon (xs ++ ys) ≡ length xs + before_colon ys
before_colon-append [] ys h = omega arith
before_colon-append (x ∷ xs) ys h = rw h.0 (omega (arith, before_colon-append xs ys h.1))

clock-before_colon : (c : ℕ) (ys : List ℕ) → before_colon (clock_text c ++ ys) ≡ 2
unfolding clock_text digits
clock-before_colon c ys =
    let a : (48 + c / 36000000000 / 10 % 10 == colon) ≡ false = grind (arith, nat_tests) in
    let b : (48 + c / 36000000000 % 10 == colon) ≡ false = grind (arith, nat_tests) in
    rw (a, b)

clock-length : (c : ℕ) → length (clock_text c) ≡ 8
unfolding clock_text digits
clock-length c = refl

position-colon : (t : List ℕ) (n : ℕ) → before_colon t ≡ n → n < length t → position (λ b. b == colon) t ≡ Some n
position-colon t n e h = rw e (grind (arith, nat_tests))

length_in-colon : (t : List ℕ) (c : ℕ) → position (λ b. b == colon) t ≡ Some c → length_in t ≡ clock_in c t
unfolding length_in length_from
length_in-colon t c e = rw e

-- ---- the whole text

time_back_with : (c f : ℕ) → c < 864000000000 → c % 10000000 ≡ f → time_in (clock_text c ++ fraction_text f) ≡ Some c
unfolding fraction_text
time_back_with c f day e =
    elim (cases_lt 0 f) [
      | inl lt ↦ let some : (f == 0) ≡ false = grind (arith, nat_tests) in
          rw some (time-back c f day (omega arith) ∙ ap Some (omega arith))
      | inr ge ↦ let z : f ≡ 0 = omega arith in
          rw z (rw (append-nil (clock_text c)) (time-back_whole c day ∙ ap Some (omega arith)))
    ]

clock_in-parts : (xs ys : List ℕ) (d s : ℕ) → 8 ≤ length ys → days_in xs ≡ Some d → time_in ys ≡ Some s → clock_in (length xs + 2) (xs ++ ys) ≡ Some (864000000000 * d + s)
unfolding clock_in
clock_in-parts xs ys d s long dd ss =
    let two : nat_le 2 (length xs + 2) ≡ true = grind (arith, nat_tests) in
    let l = length-append xs ys in
    let room : nat_le (length xs + 2 + 6) (length (xs ++ ys)) ≡ true = grind (arith, nat_tests) in
    let back : length xs + 2 - 2 ≡ length xs = omega arith in
    rw (two, room, back, take_at xs ys (length xs) refl, drop_at xs ys (length xs) refl, dd, ss)

pub length_back : (n : ℕ) → n ≤ 9223372036854775808 → length_in (length_text n) ≡ Some n
unfolding length_text
length_back n h =
    let d = n / 864000000000 in
    let c = n % 864000000000 in
    let f = n % 10000000 in
    let xs = days_text d in
    let ys = clock_text c ++ fraction_text f in
    let l = length-append (clock_text c) (fraction_text f) in
    let long : 8 ≤ length ys = omega (arith, clock-length c) in
    let all = length-append xs ys in
    let place : before_colon (xs ++ ys) ≡ length xs + 2 = before_colon-append xs ys (NoColon-days d) ∙ ap (λ k. length xs + k) (clock-before_colon c (fraction_text f)) in
    rw (append_assoc xs (clock_text c) (fraction_text f))
    (length_in-colon (xs ++ ys) (length xs + 2) (position-colon (xs ++ ys) (length xs + 2) place (omega arith))
    ∙ clock_in-parts xs ys d c long (days_back d (omega arith)) (time_back_with c f (omega arith) (omega arith))
    ∙ ap Some (omega arith))

-- ---- the sign

span_in-plain : (t : List ℕ) (n : ℕ) → 0 < length t → (get_or t 0 0 == dash) ≡ false → length_in t ≡ Some n → span_in t ≡ fit (pos n)
unfolding span_in
span_in-plain [] n h e l = absurd (omega arith)
span_in-plain (b ∷ bs) n h e l = rw (e, l)

span_in-minus : (t : List ℕ) (n : ℕ) → length_in t ≡ Some n → span_in (dash ∷ t) ≡ fit (neg_ℤ (pos n))
unfolding span_in
span_in-minus t n l = rw l

no_dash_digit : (b : ℕ) → is_ascii_digit b ≡ true → (b == dash) ≡ false
no_dash_digit b h = grind (arith, nat_tests)

first-digit : (xs ys : List ℕ) → AreDigits xs → 0 < length xs → (get_or (xs ++ ys) 0 0 == dash) ≡ false
first-digit [] ys h k = absurd (omega arith)
first-digit (x ∷ xs) ys h k = no_dash_digit x h.0

first-clock : (c : ℕ) (ys : List ℕ) → (get_or (clock_text c ++ ys) 0 0 == dash) ≡ false
unfolding clock_text digits
first-clock c ys = grind (arith, nat_tests)

length_text-first : (n : ℕ) → n ≤ 9223372036854775808 → (0 < length (length_text n)) × ((get_or (length_text n) 0 0 == dash) ≡ false)
unfolding length_text
length_text-first n h =
    let d = n / 864000000000 in
    let c = n % 864000000000 in
    let rest = fraction_text (n % 10000000) in
    let l = length-append (days_text d ++ clock_text c) rest in
    let k = length-append (days_text d) (clock_text c) in (
      omega (arith, clock-length c),
      elim (cases_lt 0 d) [
        | inl lt ↦ let w = width_fits d (omega arith) in
            rw (days_text-some d lt, append_assoc, append_assoc) (first-digit _ _ (AreDigits-digits (width_of d) d) (omega (arith, length-digits (width_of d) d)))
        | inr ge ↦ rw (days_text-none d (omega arith)) (first-clock c rest)
      ],
    )

fit-pos : (n : ℕ) → n < 9223372036854775808 → fit (pos n) ≡ Some (pos n)
unfolding fit
fit-pos n h = grind (arith, nat_tests)

fit-negsuc : (n : ℕ) → n < 9223372036854775808 → fit (negsuc n) ≡ Some (negsuc n)
unfolding fit
fit-negsuc n h = grind (arith, nat_tests)

-- a timespan reads back
pub span_back : (z : ℤ) → FitsSigned w64 z → span_in (span_text z) ≡ Some z
span_back (pos n) h =
    let small : n < 9223372036854775808 = omega (arith, h.sfits) in
    let first = length_text-first n (omega arith) in
    span_in-plain (length_text n) n first.0 first.1 (length_back n (omega arith)) ∙ fit-pos n small
span_back (negsuc n) h =
    let small : n < 9223372036854775808 = omega (arith, h.sfits) in
    span_in-minus (length_text (suc n)) (suc n) (length_back (suc n) (omega arith)) ∙ fit-negsuc n small
