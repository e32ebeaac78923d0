-- Days from 0001-01-01, and the dates that they are.
use Rattle.std.specs.Prelude.{◌≡◌, ℕ, zero, suc, ◌+◌, ◌-◌, ◌≤◌, nat_le, if◌then◌else◌, pos}
use Rattle.jiff_core.specs.Calendar.{IsCivilDate, day_count}

-- the days from 0001-01-01 to a date; the calendar counts them from the year -10000 on
abbrev pub date_number : ℕ → ℕ → ℕ → ℕ
date_number y m d = day_count (pos y) m d - 3652791

-- the last of the numbers from 1 up to a top that has begun by n, where f says when each begins
unfoldable pub last_begun : (ℕ → ℕ) → ℕ → ℕ → ℕ
last_begun f zero n = 0
last_begun f (suc k) n = if nat_le (f (suc k)) n then suc k else last_begun f k n

-- the year of a day: the last that has begun
unfoldable pub year_on : ℕ → ℕ
year_on n = last_begun (λ y. date_number y 1 1) 9999 n

-- its month, from 1
unfoldable pub month_on : ℕ → ℕ
month_on n = last_begun (λ m. date_number (year_on n) m 1) 12 n

-- its day of the month, from 1
unfoldable pub day_on : ℕ → ℕ
day_on n = n + 1 - date_number (year_on n) (month_on n) 1

-- the calendar has this date, and it is the day n from 0001-01-01
pub record IsDateOn (n y m d : ℕ) : Type 0 where
  pub year : 1 ≤ y
  pub civil : IsCivilDate (pos y) m d
  pub count : day_count (pos y) m d ≡ n + 3652791

-- the year, month and day of a day are a date of the calendar, and that date is the day
abbrev pub HasDate : ℕ → Type 0
HasDate n = IsDateOn n (year_on n) (month_on n) (day_on n)
