-- A datetime moved by whole parts.
use Rattle.std.specs.Prelude.{ℕ, ◌+◌, ◌*◌, ◌/◌, ◌%◌, min, nat_le, nat_lt, ◌&&◌, if◌then◌else◌, Option, Some, None, ℤ, pos, negsuc, ◌+ℤ◌, ◌*ℤ◌}
use Rattle.jiff_core.specs.Calendar.{days_in_month}
use Rattle.kql_ticks.specs.declared.part.Part.{Part}
use Rattle.kql_ticks.specs.declared.part.Part.TheVariants as part
use Rattle.kql_ticks.specs.Days.{date_number, day_on}
use Rattle.kql_ticks.specs.Periods.{day_at, month_number, ticks_of}
use Rattle.kql_ticks.specs.Ranges.{fit_moment}

-- the day of the month, or the last of the month where that is shorter
abbrev pub day_within : ℕ → ℕ → ℕ
day_within k d = min d (days_in_month (pos (k / 12)) (k % 12 + 1))

-- a datetime in another month, whose number is k: the same day or the month's last, at the same time of day
unfoldable pub in_month : ℕ → ℕ → ℕ
in_month k t =
    864000000000 * date_number (k / 12) (k % 12 + 1) (day_within k (day_on (day_at t))) + t % 864000000000

-- the same, if the month is of the years 1 to 9999
unfoldable pub to_month : ℤ → ℕ → Option ℤ
to_month (pos k) t = if nat_le 12 k && nat_lt k 120000 then Some (pos (in_month k t)) else None
to_month (negsuc k) t = None

-- n parts later: years, quarters and months keep the day or take the month's last, and the others are exact
abbrev pub add_part : Part → ℤ → ℕ → Option ℤ
add_part part.Year n t = to_month (pos (month_number (day_at t)) +ℤ pos 12 *ℤ n) t
add_part part.Quarter n t = to_month (pos (month_number (day_at t)) +ℤ pos 3 *ℤ n) t
add_part part.Month n t = to_month (pos (month_number (day_at t)) +ℤ n) t
add_part p n t = fit_moment (pos t +ℤ n *ℤ pos (ticks_of p))
