-- The periods that a datetime lies in, and its fields. A datetime is a number of ticks of 100 ns from 0001-01-01.
use Rattle.std.specs.Prelude.{ℕ, ◌+◌, ◌-◌, ◌*◌, ◌/◌, ◌%◌, Option, ℤ, pos, ◌-ℤ◌, ◌*ℤ◌}
use Rattle.kql_ticks.specs.declared.part.Part.{Part}
use Rattle.kql_ticks.specs.declared.part.Part.TheVariants as part
use Rattle.kql_ticks.specs.Days.{date_number, year_on, month_on, day_on}
use Rattle.kql_ticks.specs.Ranges.{fit_moment}

-- the ticks of a part that has a fixed length, and 0 for another
abbrev pub ticks_of : Part → ℕ
ticks_of part.Year = 0
ticks_of part.Quarter = 0
ticks_of part.Month = 0
ticks_of part.Week = 7 * 864000000000
ticks_of part.Day = 864000000000
ticks_of part.DayOfYear = 0
ticks_of part.Hour = 36000000000
ticks_of part.Minute = 600000000
ticks_of part.Second = 10000000
ticks_of part.Millisecond = 10000
ticks_of part.Microsecond = 10

-- a datetime's day, from 0001-01-01
abbrev pub day_at : ℕ → ℕ
day_at t = t / 864000000000

-- months since January of the year 0
abbrev pub month_number : ℕ → ℕ
month_number n = 12 * year_on n + (month_on n - 1)

-- the number of the year, quarter, month, week or day that a day lies in; weeks start on Sunday, and week 0 began
-- on the day before 0001-01-01
abbrev pub day_period : Part → ℕ → ℕ
day_period part.Year n = year_on n
day_period part.Quarter n = month_number n / 3
day_period part.Month n = month_number n
day_period part.Week n = (n + 1) / 7
day_period _ n = n

-- the first day of the month with this number
abbrev pub first_of_month : ℕ → ℕ
first_of_month k = date_number (k / 12) (k % 12 + 1) 1

-- the first day of the period with this number
abbrev pub first_day : Part → ℕ → ℤ
first_day part.Year k = pos (date_number k 1 1)
first_day part.Quarter k = pos (first_of_month (3 * k))
first_day part.Month k = pos (first_of_month k)
first_day part.Week k = pos (7 * k) -ℤ pos 1
first_day _ k = pos k

-- a part whose periods have a start and an end
abbrev pub HasBounds : Part → Type 0
HasBounds part.Year = Unit {0}
HasBounds part.Month = Unit {0}
HasBounds part.Week = Unit {0}
HasBounds part.Day = Unit {0}
HasBounds _ = ⊥

-- the first tick of the period that a datetime lies in
abbrev pub start_of : Part → ℕ → Option ℤ
start_of p t = fit_moment (first_day p (day_period p (day_at t)) *ℤ pos 864000000000)

-- the last tick of it
abbrev pub end_of : Part → ℕ → Option ℤ
end_of p t = fit_moment (first_day p (day_period p (day_at t) + 1) *ℤ pos 864000000000 -ℤ pos 1)

-- a part whose periods are numbered
abbrev pub IsPeriod : Part → Type 0
IsPeriod part.DayOfYear = ⊥
IsPeriod _ = Unit {0}

-- the number of the period that a datetime lies in
abbrev pub period : Part → ℕ → ℕ
period part.Hour t = t / ticks_of part.Hour
period part.Minute t = t / ticks_of part.Minute
period part.Second t = t / ticks_of part.Second
period part.Millisecond t = t / ticks_of part.Millisecond
period part.Microsecond t = t / ticks_of part.Microsecond
period p t = day_period p (day_at t)

-- the fields of a datetime: quarters, months and days count from 1, and the others from 0
abbrev pub field : Part → ℕ → ℕ
field part.Year t = year_on (day_at t)
field part.Quarter t = (month_on (day_at t) + 2) / 3
field part.Month t = month_on (day_at t)
field part.Day t = day_on (day_at t)
field part.DayOfYear t = day_at t + 1 - date_number (year_on (day_at t)) 1 1
field part.Hour t = t % 864000000000 / 36000000000
field part.Minute t = t % 36000000000 / 600000000
field part.Second t = t % 600000000 / 10000000
field part.Millisecond t = t % 10000000 / 10000
field _ t = 0

-- a part that is a field
abbrev pub HasField : Part → Type 0
HasField part.Week = ⊥
HasField part.Microsecond = ⊥
HasField _ = Unit {0}

-- the whole days since the preceding Sunday, in ticks
abbrev pub since_sunday : ℕ → ℕ
since_sunday t = 864000000000 * ((day_at t + 1) % 7)
