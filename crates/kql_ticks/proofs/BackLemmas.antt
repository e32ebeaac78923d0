-- The texts that datetimes and timespans print as, read back.
use Rattle.std.proofs.Common.{◌≡◌, ℕ, ◌+◌, ◌-◌, ◌/◌, ◌%◌, ◌<◌, ◌≤◌, nat_lt, true, [], ◌∷◌, ◌++◌, Some, refl, ap, ◌∙◌, arith, ℤ, pos, negsuc, ◌≤ℤ◌, unsigned_abs}
use Rattle.std.proofs.lemmas.Bool.Decides.{nat_tests}
use Rattle.std.proofs.lemmas.Int.{ints}
use Rattle.jiff_core.proofs.CalendarLemmas.{days_in_month_bounds}
use Rattle.jiff_core.proofs.SignedLemmas.{signed_arith}
use Rattle.kql_ticks.specs.Days.{date_number, year_on, month_on, day_on, IsDateOn, HasDate}
use Rattle.kql_ticks.specs.Forms.{date_in, day_of_date, minutes_in, seconds_in, fraction_in, time_in, long_time_in, zone_in, zoned_in, time_of_day_in, moment_in}
use Rattle.kql_ticks.specs.Numbers.{share}
use Rattle.kql_ticks.specs.Periods.{day_at}
use Rattle.kql_ticks.specs.Texts.{digits, date_text, clock_text, moment_text, dot, letter_t, letter_z}
use Rattle.kql_ticks.proofs.DigitLemmas.{number-digits, share-value, value-digits, length-digits, AreDigits-digits}
use Rattle.kql_ticks.proofs.ZoneLaws.{ticks_are}

day_is : (n y m d : ℕ) → IsDateOn n y m d → day_of_date y m d ≡ Some n
unfolding day_of_date
day_is n y m d on =
    let low = on.year in
    let high : y ≤ 9999 = omega (arith, signed_arith, on.civil.0) in
    let mo = on.civil.1 in
    let da = on.civil.2 in
    let e : date_number y m d ≡ n = omega (arith, on.count) in
    rw e (grind (arith, nat_tests, mo, da))

pub date_back : (n : ℕ) → HasDate n → date_in (date_text n) ≡ Some n
unfolding date_in date_text digits
date_back n on =
    let y = number-digits 4 (year_on n) (omega arith) (omega (arith, signed_arith, on.civil.0)) (omega (arith, signed_arith, on.civil.0)) in
    let m = number-digits 2 (month_on n) (omega arith) (omega (arith, on.civil.1)) (omega (arith, on.civil.1)) in
    let long = days_in_month_bounds (pos (year_on n)) (month_on n) in
    let d = number-digits 2 (day_on n) (omega arith) (omega (arith, on.civil.2, long)) (omega (arith, on.civil.2, long)) in
    rw (y, m, d) (day_is n (year_on n) (month_on n) (day_on n) on)

share-digits : (f : ℕ) → f < 10000000 → share 10000000 (digits 7 f) ≡ Some f
share-digits f h =
    let e = length-digits 7 f in
    share-value 1 10000000 (digits 7 f) (AreDigits-digits 7 f) (rw e refl)
    ∙ ap Some (omega (arith, value-digits 7 f h))

-- the time of day, to the second, and a fraction
pub time-back : (c f : ℕ) → c < 864000000000 → f < 10000000 → time_in (clock_text c ++ dot ∷ digits 7 f) ≡ Some (c - c % 10000000 + f)
unfolding time_in clock_text digits minutes_in seconds_in fraction_in
time-back c f day small =
    let h = number-digits 2 (c / 36000000000) (omega arith) (omega arith) (omega arith) in
    let m = number-digits 2 (c % 36000000000 / 600000000) (omega arith) (omega arith) (omega arith) in
    let s = number-digits 2 (c % 600000000 / 10000000) (omega arith) (omega arith) (omega arith) in
    let hour : nat_lt (c / 36000000000) 24 ≡ true = grind (arith, nat_tests) in
    let minute : nat_lt (c % 36000000000 / 600000000) 60 ≡ true = grind (arith, nat_tests) in
    let second : nat_lt (c % 600000000 / 10000000) 60 ≡ true = grind (arith, nat_tests) in
    rw (h, m, s, hour, minute, share-digits f small, second) (ap Some (omega arith))

pub time-back_whole : (c : ℕ) → c < 864000000000 → time_in (clock_text c) ≡ Some (c - c % 10000000)
unfolding time_in clock_text digits minutes_in seconds_in fraction_in
time-back_whole c day =
    let h = number-digits 2 (c / 36000000000) (omega arith) (omega arith) (omega arith) in
    let m = number-digits 2 (c % 36000000000 / 600000000) (omega arith) (omega arith) (omega arith) in
    let s = number-digits 2 (c % 600000000 / 10000000) (omega arith) (omega arith) (omega arith) in
    let hour : nat_lt (c / 36000000000) 24 ≡ true = grind (arith, nat_tests) in
    let minute : nat_lt (c % 36000000000 / 600000000) 60 ≡ true = grind (arith, nat_tests) in
    let second : nat_lt (c % 600000000 / 10000000) 60 ≡ true = grind (arith, nat_tests) in
    rw (h, m, s, hour, minute, second) (ap Some (omega arith))

-- the time of a datetime, and its zone
zoned-back : (c f : ℕ) → c < 864000000000 → f < 10000000 → time_of_day_in (letter_t ∷ ((clock_text c ++ dot ∷ digits 7 f) ++ letter_z ∷ [])) ≡ Some (pos (c - c % 10000000 + f))
unfolding time_of_day_in zoned_in zone_in long_time_in clock_text digits
zoned-back c f day small =
    let h = AreDigits-digits 2 (c / 36000000000) in
    let m = AreDigits-digits 2 (c % 36000000000 / 600000000) in
    let s = AreDigits-digits 2 (c % 600000000 / 10000000) in
    let d = AreDigits-digits 7 f in
    rw (h.0, h.1.0, m.0, m.1.0, s.0, s.1.0, d.0, d.1.0, d.1.1.0, d.1.1.1.0, d.1.1.1.1.0, d.1.1.1.1.1.0, d.1.1.1.1.1.1.0, time-back c f day small)
    (ap Some (omega (arith, ints)))

-- a datetime reads back
pub moment_back : (t : ℕ) → t ≤ 3155378975999999999 → HasDate (day_at t) → moment_in (moment_text t) ≡ Some t
unfolding moment_text date_text clock_text digits moment_in
moment_back t top on =
    let c : t % 864000000000 < 864000000000 = omega arith in
    let f : t % 10000000 < 10000000 = omega arith in
    rw (date_back (day_at t) on, zoned-back (t % 864000000000) (t % 10000000) c f)
    (ticks_are _ t (omega (arith, ints)) top)

-- a number that is not negative is its size
pub size_is : (z : ℤ) (n : ℕ) → pos 0 ≤ℤ z → n ≡ unsigned_abs z → pos n ≡ z
size_is (pos k) n h e = ap pos e
size_is (negsuc k) n h e = absurd (omega (arith, signed_arith))
