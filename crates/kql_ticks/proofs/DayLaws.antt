-- The date of a day, as the calendar counts it.
use Rattle.std.proofs.Common.{◌≡◌, ℕ, zero, suc, ◌+◌, ◌-◌, ◌*◌, ◌/◌, ◌%◌, ◌<◌, ◌≤◌, inl, inr, refl, sym, subst, ◌∙◌, arith, ℤ, pos, negsuc, ◌≤ℤ◌, ◌<ℤ◌, unsigned_abs, Some, None}
use Rattle.std.proofs.lemmas.Bool.{cases_lt}
use Rattle.std.proofs.lemmas.Bool.Decides.{nat_tests}
use Rattle.jiff_core.specs.Calendar.{IsCivilDate, day_count, day_of_year, days_in_month, days_in_year}
use Rattle.jiff_core.proofs.CalendarLemmas.{day_count-day_of_year, day_count-lt_year, day_count-lt_month, day_count-day, day_count-later_year, day_count-next_month, day_count-next_year, day_count-last_of_year, day_count-year_bounds, day_count_bounds, days_in_month_bounds}
use Rattle.jiff_core.proofs.MarchLemmas.{day_count-early}
use Rattle.jiff_core.proofs.SignedLemmas.{signed_arith}
use Rattle.kql_ticks.specs.Moves.{to_month, in_month}
use Rattle.kql_ticks.specs.Periods.{first_of_month}
use Rattle.kql_ticks.specs.Days.{date_number, last_begun, year_on, month_on, day_on, IsDateOn}

-- ---- the last that has begun

last_begun-here : (f : ℕ → ℕ) (k n : ℕ) → f (suc k) ≤ n → last_begun f (suc k) n ≡ suc k
unfolding last_begun
last_begun-here f k n h = grind (arith, nat_tests)

last_begun-before : (f : ℕ → ℕ) (k n : ℕ) → n < f (suc k) → last_begun f (suc k) n ≡ last_begun f k n
unfolding last_begun
last_begun-before f k n h = grind (arith, nat_tests)

last_begun-zero : (f : ℕ → ℕ) (n : ℕ) → last_begun f 0 n ≡ 0
unfolding last_begun
last_begun-zero f n = refl

-- j is the last that has begun
pub last_begun_is : (f : ℕ → ℕ) (k n j : ℕ) → j ≤ k → f j ≤ n → ((i : ℕ) → j < i → i ≤ k → n < f i) → last_begun f k n ≡ j
last_begun_is f zero n j le begun later = omega (arith, last_begun-zero f n)
last_begun_is f (suc k) n j le begun later =
    elim (cases_lt j (suc k)) [
      | inl lt ↦ last_begun-before f k n (later (suc k) lt (omega arith)) ∙ last_begun_is f k n j (omega arith) begun (λ i a b. later i a (omega arith))
      | inr ge ↦ let e : j ≡ suc k = omega arith in
          last_begun-here f k n (let P : ℕ → Type 0 = λ x. f x ≤ n in subst P e begun) ∙ sym e
    ]

-- ---- the parts of a date

pub day_count-first : day_count (pos 1) 1 1 ≡ 3652791
day_count-first = day_count-early (pos 1) 10000 1 1 refl (omega arith) (omega arith) (omega arith)

-- no year from 1 on begins before it
pub day_count-year_low : (y : ℕ) → 1 ≤ y → 3652791 ≤ day_count (pos y) 1 1
day_count-year_low y h =
    elim (cases_lt 1 y) [
      | inl lt ↦ omega (arith, day_count-first, day_count-later_year (pos 1) (pos y) (omega (arith, signed_arith)) (omega (arith, signed_arith)))
      | inr ge ↦ let e : y ≡ 1 = omega arith in rw e (omega (arith, day_count-first))
    ]

pub day_count-low : (y m d : ℕ) → 1 ≤ y → 1 ≤ d → 3652791 ≤ day_count (pos y) m d
day_count-low y m d h first = omega (arith, day_count-day_of_year (pos y) m d first, day_count-year_low y h)

pub year_on_is : (n y m d : ℕ) → IsDateOn n y m d → year_on n ≡ y
unfolding year_on
year_on_is n y m d on =
    last_begun_is (λ y. date_number y 1 1) 9999 n y (omega (arith, signed_arith, on.civil.0))
    (omega (arith, on.count, day_count-day_of_year (pos y) m d on.civil.2.0, on.civil.2.0))
    (λ i lt le. omega (arith, on.count, day_count-lt_year (pos y) m d (pos i) 1 1 on.civil (omega arith) (omega (arith, signed_arith))))

pub month_on_is : (n y m d : ℕ) → IsDateOn n y m d → month_on n ≡ m
unfolding month_on
month_on_is n y m d on =
    rw (year_on_is n y m d on) (last_begun_is (λ m. date_number y m 1) 12 n m on.civil.1.1
    (omega (arith, on.count, day_count-day (pos y) m d 1 on.civil.2.0 (omega arith), on.civil.2.0))
    (λ i lt le. omega (arith, on.count, day_count-lt_month (pos y) m d i 1 on.civil (omega arith) lt)))

pub day_on_is : (n y m d : ℕ) → IsDateOn n y m d → day_on n ≡ d
unfolding day_on
day_on_is n y m d on =
    rw (year_on_is n y m d on, month_on_is n y m d on)
    (omega (arith, on.count, day_count-day (pos y) m d 1 on.civil.2.0 (omega arith), day_count-low y m 1 on.year (omega arith)))

-- what a day count says of a day from 0001-01-01
pub date_on_day : (n : ℕ) (y : ℤ) (m d : ℕ) → IsCivilDate y m d → day_count y m d ≡ n + 3652791 → (k : ℕ) × (y ≡ pos k) × IsDateOn n k m d
date_on_day n (pos zero) m d civil e =
    absurd (omega (arith, day_count-first, day_count-lt_year (pos 0) m d (pos 1) 1 1 civil (omega arith) (omega (arith, signed_arith))))
date_on_day n (pos (suc y)) m d civil e =
    (suc y, refl, record { year = omega arith; civil = civil; count = e })
date_on_day n (negsuc y) m d civil e =
    absurd (omega (arith, day_count-first, day_count-lt_year (negsuc y) m d (pos 1) 1 1 civil (omega arith) (omega (arith, signed_arith))))

-- ---- the first days of the year and of the month of a day, and of those after them

pub year_first : (n y m d : ℕ) → IsDateOn n y m d → date_number y 1 1 + day_of_year (pos y) m d ≡ n + 1
year_first n y m d on =
    omega (arith, on.count, day_count-day_of_year (pos y) m d on.civil.2.0, day_count-year_low y on.year)

pub month_first : (n y m d : ℕ) → IsDateOn n y m d → date_number y m 1 + d ≡ n + 1
month_first n y m d on =
    omega (arith, on.count, day_count-day (pos y) m d 1 on.civil.2.0 (omega arith), day_count-low y m 1 on.year (omega arith))

pub year_next : (y : ℕ) → 1 ≤ y → date_number (y + 1) 1 1 ≡ date_number y 1 1 + days_in_year (pos y)
year_next y h =
    omega (arith, day_count-next_year (pos y) (pos (y + 1)) (omega (arith, signed_arith)) (omega (arith, signed_arith)), day_count-year_low y h)

pub year_next_bound : (n y m d : ℕ) → IsDateOn n y m d → date_number y 1 1 + days_in_year (pos y) ≤ 3652059
year_next_bound n y m d on = omega (arith, day_count-year_bounds (pos y) on.civil.0, day_count-year_low y on.year)

pub month_place : (y m : ℕ) → 1 ≤ m → m ≤ 12 → ((12 * y + (m - 1)) / 12 ≡ y) × ((12 * y + (m - 1)) % 12 + 1 ≡ m)
month_place y m low high = (omega arith, omega arith)

pub first_of_month-is : (y m : ℕ) → 1 ≤ m → m ≤ 12 → first_of_month (12 * y + (m - 1)) ≡ date_number y m 1
first_of_month-is y m low high = rw ((month_place y m low high).0, (month_place y m low high).1)

pub month_next : (y m : ℕ) → 1 ≤ y → 1 ≤ m → m ≤ 12 → first_of_month (12 * y + (m - 1) + 1) ≡ date_number y m 1 + days_in_month (pos y) m
month_next y m h low high =
    elim (cases_lt m 12) [
      | inl lt ↦ let e : 12 * y + (m - 1) + 1 ≡ 12 * y + ((m + 1) - 1) = omega arith in
          rw e (first_of_month-is y (m + 1) (omega arith) (omega arith)
          ∙ omega (arith, day_count-next_month (pos y) m low, day_count-low y m 1 h (omega arith)))
      | inr ge ↦ let e : m ≡ 12 = omega arith in
          let f : 12 * y + (m - 1) + 1 ≡ 12 * (y + 1) + (1 - 1) = omega arith in
          rw f (first_of_month-is (y + 1) 1 (omega arith) (omega arith)
          ∙ year_next y h ∙ rw e (omega (arith, day_count-last_of_year (pos y), day_count-day (pos y) 12 31 1 (omega arith) (omega arith), day_count-low y 1 1 h (omega arith), day_count-low y 12 1 h (omega arith))))
    ]

pub month_next_bound : (n y m d : ℕ) → IsDateOn n y m d → date_number y m 1 + days_in_month (pos y) m ≤ 3652059
month_next_bound n y m d on =
    let long = days_in_month_bounds (pos y) m in
    let last = day_count_bounds (pos y) m (days_in_month (pos y) m) (on.civil.0, on.civil.1, (omega (arith, long), omega arith)) in
    omega (arith, last, long, day_count-day (pos y) m (days_in_month (pos y) m) 1 (omega (arith, long)) (omega arith), day_count-low y m 1 on.year (omega arith))

-- a date's day from the days since -9999-01-01
pub day_number_is : (y : ℤ) (m d r : ℕ) → pos 1 ≤ℤ y → 1 ≤ d → day_count y m d ≡ r + 366 → (3652425 ≤ r) × (r - 3652425 ≡ date_number (unsigned_abs y) m d)
day_number_is (pos y) m d r h first e =
    let low = day_count-low y m d (omega (arith, signed_arith)) first in
    (omega arith, omega arith)
day_number_is (negsuc y) m d r h first e = absurd (omega (arith, signed_arith))

-- a month's number that is of the years 1 to 9999, or not
pub to_month-low : (z : ℤ) (t : ℕ) → z <ℤ pos 12 → to_month z t ≡ None
unfolding to_month
to_month-low (pos k) t h = let lt : k < 12 = omega (arith, signed_arith) in grind (arith, nat_tests)
to_month-low (negsuc k) t h = refl

pub to_month-high : (z : ℤ) (t : ℕ) → pos 120000 ≤ℤ z → to_month z t ≡ None
unfolding to_month
to_month-high (pos k) t h = let ge : 120000 ≤ k = omega (arith, signed_arith) in grind (arith, nat_tests)
to_month-high (negsuc k) t h = refl

pub to_month-is : (z : ℤ) (t : ℕ) → pos 12 ≤ℤ z → z <ℤ pos 120000 → to_month z t ≡ Some (pos (in_month (unsigned_abs z) t))
unfolding to_month
to_month-is (pos k) t h g =
    let low : 12 ≤ k = omega (arith, signed_arith) in
    let high : k < 120000 = omega (arith, signed_arith) in
    grind (arith, nat_tests)
to_month-is (negsuc k) t h g = absurd (omega (arith, signed_arith))
