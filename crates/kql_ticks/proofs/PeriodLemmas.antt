-- Which year and month the first and last days of a year and of a month are in, and the days beside them.
use Rattle.std.proofs.Common.{◌≡◌, ◌≢◌, ℕ, ◌+◌, ◌-◌, ◌*◌, ◌<◌, ◌≤◌, inl, inr, ap, subst, ◌∙◌, arith, pos}
use Rattle.std.proofs.lemmas.Bool.{cases_lt}
use Rattle.jiff_core.specs.Calendar.{IsCivilDate, days_in_month}
use Rattle.jiff_core.proofs.CalendarLemmas.{day_count-day, day_count-end, day_count-last_of_year, day_count-next_month, days_in_month_bounds, days_in_year_bounds}
use Rattle.jiff_core.proofs.SignedLemmas.{signed_arith}
use Rattle.kql_ticks.specs.Days.{date_number, year_on, month_on, IsDateOn, HasDate}
use Rattle.kql_ticks.specs.Periods.{first_of_month, month_number}
use Rattle.kql_ticks.proofs.DayLaws.{day_count-first, day_count-low, day_count-year_low, year_on_is, month_on_is, year_next, month_next, first_of_month-is}

-- a date is on its day
on_date : (y m d : ℕ) → 1 ≤ y → IsCivilDate (pos y) m d → IsDateOn (date_number y m d) y m d
on_date y m d h civil = record {
  year = h;
  civil = civil;
  count = omega (arith, day_count-low y m d h civil.2.0);
}

month_number_is : (n y m d : ℕ) → IsDateOn n y m d → month_number n ≡ 12 * y + (m - 1)
month_number_is n y m d on = rw (year_on_is n y m d on, month_on_is n y m d on)

is_year : (n : ℕ) → HasDate n → year_on n ≤ 9999
is_year n on = omega (arith, signed_arith, on.civil.0)

january_first : (y : ℕ) → 1 ≤ y → y ≤ 9999 → IsDateOn (date_number y 1 1) y 1 1
january_first y low high =
    on_date y 1 1 low ((omega (arith, signed_arith), omega (arith, signed_arith)), (omega arith, omega arith), (omega arith, omega arith))

december_last : (y : ℕ) → 1 ≤ y → y ≤ 9999 → IsDateOn (date_number (y + 1) 1 1 - 1) y 12 31
december_last y low high =
    record {
      year = low;
      civil = ((omega (arith, signed_arith), omega (arith, signed_arith)), (omega arith, omega arith), (omega arith, omega arith));
      count = omega (arith, day_count-last_of_year (pos y), days_in_year_bounds (pos y), year_next y low, day_count-year_low y low);
    }

month_first_date : (y m : ℕ) → 1 ≤ y → y ≤ 9999 → 1 ≤ m → m ≤ 12 → IsDateOn (date_number y m 1) y m 1
month_first_date y m low high mlow mhigh =
    let long = days_in_month_bounds (pos y) m in
    on_date y m 1 low ((omega (arith, signed_arith), omega (arith, signed_arith)), (mlow, mhigh), (omega arith, omega (arith, long)))

month_last_date : (y m : ℕ) → 1 ≤ y → y ≤ 9999 → 1 ≤ m → m ≤ 12 → IsDateOn (date_number y m 1 + days_in_month (pos y) m - 1) y m (days_in_month (pos y) m)
month_last_date y m low high mlow mhigh =
    let long = days_in_month_bounds (pos y) m in
    record {
      year = low;
      civil = ((omega (arith, signed_arith), omega (arith, signed_arith)), (mlow, mhigh), (omega (arith, long), omega arith));
      count = omega (arith, long, day_count-day (pos y) m (days_in_month (pos y) m) 1 (omega (arith, long)) (omega arith), day_count-low y m 1 low (omega arith));
    }

-- ---- years

pub year_same : (n : ℕ) → HasDate n → year_on (date_number (year_on n) 1 1) ≡ year_on n
year_same n on = year_on_is _ _ 1 1 (january_first (year_on n) on.year (is_year n on))

pub year_before : (n : ℕ) → HasDate n → 0 < date_number (year_on n) 1 1 → year_on (date_number (year_on n) 1 1 - 1) ≢ year_on n
year_before n on h =
    let y = year_on n in
    elim (cases_lt 1 y) [
      | inl lt ↦ let back : y - 1 + 1 ≡ y = omega arith in
          let e = rw back at (year_on_is _ _ 12 31 (december_last (y - 1) (omega arith) (omega (arith, is_year n on)))) in
          λ same. omega (arith, e, same)
      | inr ge ↦ let one : y ≡ 1 = omega (arith, on.year) in
          let zero : date_number y 1 1 ≡ 0 = rw one (omega (arith, day_count-first)) in
          λ same. omega arith
    ]

pub year_last : (n : ℕ) → HasDate n → year_on (date_number (year_on n + 1) 1 1 - 1) ≡ year_on n
year_last n on = year_on_is _ _ 12 31 (december_last (year_on n) on.year (is_year n on))

pub year_after : (n : ℕ) → HasDate n → date_number (year_on n + 1) 1 1 < 3652059 → year_on (date_number (year_on n + 1) 1 1) ≢ year_on n
year_after n on h =
    let y = year_on n in
    elim (cases_lt y 9999) [
      | inl lt ↦ let e = year_on_is _ _ 1 1 (january_first (y + 1) (omega arith) (omega arith)) in λ same. omega (arith, e, same)
      | inr ge ↦ let top : y + 1 ≡ 10000 = omega (arith, is_year n on) in
          let high = rw top at h in
          λ same. omega (arith, day_count-end, high)
    ]

-- ---- months

pub month_same : (n : ℕ) → HasDate n → month_number (first_of_month (month_number n)) ≡ month_number n
month_same n on =
    let m = on.civil.1 in
    rw (first_of_month-is (year_on n) (month_on n) m.0 m.1)
    (month_number_is _ _ _ 1 (month_first_date (year_on n) (month_on n) on.year (is_year n on) m.0 m.1))

pub month_before : (n : ℕ) → HasDate n → 0 < first_of_month (month_number n) → month_number (first_of_month (month_number n) - 1) ≢ month_number n
month_before n on h =
    let y = year_on n in
    let m = month_on n in
    let mm = on.civil.1 in
    let start = first_of_month-is y m mm.0 mm.1 in
    elim (cases_lt 1 m) [
      | inl lt ↦ let back : m - 1 + 1 ≡ m = omega arith in
          let step = rw back at (day_count-next_month (pos y) (m - 1) (omega arith)) in
          let date = month_last_date y (m - 1) on.year (is_year n on) (omega arith) (omega (arith, mm.1)) in
          let e : first_of_month (month_number n) - 1 ≡ date_number y (m - 1) 1 + days_in_month (pos y) (m - 1) - 1 = omega (arith, start, step, day_count-low y (m - 1) 1 on.year (omega arith)) in
          rw e (let k = month_number_is _ _ _ _ date in λ same. omega (arith, k, same))
      | inr ge ↦ let one : m ≡ 1 = omega (arith, mm.0) in
          let first : first_of_month (month_number n) ≡ date_number y 1 1 = start ∙ ap (λ k. date_number y k 1) one in
          elim (cases_lt 1 y) [
            | inl lt ↦ let back : y - 1 + 1 ≡ y = omega arith in
                let k = rw back at (month_number_is _ _ 12 31 (december_last (y - 1) (omega arith) (omega (arith, is_year n on)))) in
                rw first (λ same. omega (arith, k, same))
            | inr le ↦ let year_one : y ≡ 1 = omega (arith, on.year) in
                let zero : date_number y 1 1 ≡ 0 = rw year_one (omega (arith, day_count-first)) in
                λ same. omega (arith, first, zero, h)
          ]
    ]

pub month_last : (n : ℕ) → HasDate n → month_number (first_of_month (month_number n + 1) - 1) ≡ month_number n
month_last n on =
    let m = on.civil.1 in
    rw (month_next (year_on n) (month_on n) on.year m.0 m.1)
    (month_number_is _ _ _ _ (month_last_date (year_on n) (month_on n) on.year (is_year n on) m.0 m.1))

pub month_after : (n : ℕ) → HasDate n → first_of_month (month_number n + 1) < 3652059 → month_number (first_of_month (month_number n + 1)) ≢ month_number n
month_after n on h =
    let y = year_on n in
    let m = month_on n in
    let mm = on.civil.1 in
    elim (cases_lt m 12) [
      | inl lt ↦ let e : month_number n + 1 ≡ 12 * y + ((m + 1) - 1) = omega arith in
          let first = first_of_month-is y (m + 1) (omega arith) (omega arith) in
          let k = month_number_is _ _ _ 1 (month_first_date y (m + 1) on.year (is_year n on) (omega arith) (omega arith)) in
          rw (e, first) (λ same. omega (arith, k, same))
      | inr ge ↦ let e : month_number n + 1 ≡ 12 * (y + 1) + (1 - 1) = omega arith in
          let first = first_of_month-is (y + 1) 1 (omega arith) (omega arith) in
          let f = ap first_of_month e ∙ first in
          elim (cases_lt y 9999) [
            | inl lt ↦ let k = month_number_is _ _ 1 1 (january_first (y + 1) (omega arith) (omega arith)) in
                rw f (λ same. omega (arith, k, same))
            | inr le ↦ let top : y + 1 ≡ 10000 = omega (arith, is_year n on) in
                let high : date_number 10000 1 1 < 3652059 = let P : ℕ → Type 0 = λ k. date_number k 1 1 < 3652059 in subst P top (omega (arith, f, h)) in
                λ same. omega (arith, day_count-end, high)
          ]
    ]
