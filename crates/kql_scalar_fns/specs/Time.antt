-- The functions of datetimes and timespans.
use Rattle.std.specs.Prelude.{ℕ, pos, ◌+ℤ◌, ◌-ℤ◌, ◌*ℤ◌, ◌==◌, List, length, codes, Option, None, Some, option_and_then, option_map, unsigned_abs, if◌then◌else◌}
use Rattle.std.specs.Str.{bytes_eq}
use Rattle.kql_ticks.specs.declared.part.Part.{Part}
use Rattle.kql_ticks.specs.declared.part.Part.TheVariants as part
use Rattle.kql_ticks.specs.Forms.{moment_at}
use Rattle.kql_ticks.specs.Moves.{add_part}
use Rattle.kql_ticks.specs.Periods.{end_of, field, period, since_sunday, start_of}
use Rattle.kql_ticks.specs.Ranges.{fit_moment}
use Rattle.kql_cells.specs.declared.value.Value.{Value}
use Rattle.kql_cells.specs.declared.value.Value.TheVariants as value
use Rattle.kql_functions.specs.declared.func.TimeFunc.{TimeFunc}
use Rattle.kql_functions.specs.declared.func.TimeFunc.TheVariants as func
use Rattle.kql_scalar_fns.specs.Arguments.{argument, long_or_null, moment_or_null}

-- the part that a word names, for `datetime_add` and `datetime_diff`
unfoldable pub period_named : List ℕ → Option Part
period_named w =
    if bytes_eq w (codes "year") then Some part.Year else (
    if bytes_eq w (codes "quarter") then Some part.Quarter else (
    if bytes_eq w (codes "month") then Some part.Month else (
    if bytes_eq w (codes "week") then Some part.Week else (
    if bytes_eq w (codes "day") then Some part.Day else (
    if bytes_eq w (codes "hour") then Some part.Hour else (
    if bytes_eq w (codes "minute") then Some part.Minute else (
    if bytes_eq w (codes "second") then Some part.Second else (
    if bytes_eq w (codes "millisecond") then Some part.Millisecond else (
    if bytes_eq w (codes "microsecond") then Some part.Microsecond else None)))))))))

-- the part that a word names, for `datetime_part`
unfoldable pub field_named : List ℕ → Option Part
field_named w =
    if bytes_eq w (codes "year") then Some part.Year else (
    if bytes_eq w (codes "quarter") then Some part.Quarter else (
    if bytes_eq w (codes "month") then Some part.Month else (
    if bytes_eq w (codes "day") then Some part.Day else (
    if bytes_eq w (codes "dayofyear") then Some part.DayOfYear else (
    if bytes_eq w (codes "hour") then Some part.Hour else (
    if bytes_eq w (codes "minute") then Some part.Minute else (
    if bytes_eq w (codes "second") then Some part.Second else (
    if bytes_eq w (codes "millisecond") then Some part.Millisecond else None))))))))

-- the first tick of the period that a datetime lies in, and the last
unfoldable pub start : Part → Value → Value
start p (value.Moment x) = moment_or_null (start_of p (unsigned_abs x))
start p _ = value.Null

unfoldable pub end : Part → Value → Value
end p (value.Moment x) = moment_or_null (end_of p (unsigned_abs x))
end p _ = value.Null

-- the whole days since the preceding Sunday
unfoldable pub weekday : Value → Value
weekday (value.Moment x) = value.Span (pos (since_sunday (unsigned_abs x)))
weekday _ = value.Null

-- a field of a datetime
unfoldable pub field_of : Part → Value → Value
field_of p (value.Moment x) = value.Long (pos (field p (unsigned_abs x)))
field_of p _ = value.Null

-- n parts later
unfoldable pub moved : Value → Value → Value → Value
moved (value.Text w) (value.Long n) (value.Moment x) = moment_or_null (option_and_then (λ p. add_part p n (unsigned_abs x)) (period_named w))
moved _ _ _ = value.Null

-- the borders of periods from b to a
unfoldable pub crossed : Value → Value → Value → Value
crossed (value.Text w) (value.Moment a) (value.Moment b) = long_or_null (option_map (λ p. pos (period p (unsigned_abs a)) -ℤ pos (period p (unsigned_abs b))) (period_named w))
crossed _ _ _ = value.Null

-- the field that a word names
unfoldable pub named_field : Value → Value → Value
named_field (value.Text w) (value.Moment x) = long_or_null (option_map (λ p. pos (field p (unsigned_abs x))) (field_named w))
named_field _ _ = value.Null

-- the datetime of a year, month and day, at an hour and minute
unfoldable pub made : Value → Value → Value → Value → Value → Value
made (value.Long y) (value.Long m) (value.Long d) (value.Long h) (value.Long mi) = moment_or_null (option_map pos (moment_at y m d h mi))
made _ _ _ _ _ = value.Null

-- so many ticks of a unit after 1970-01-01
unfoldable pub since_1970 : ℕ → Value → Value
since_1970 unit (value.Long n) = moment_or_null (fit_moment (pos 621355968000000000 +ℤ n *ℤ pos unit))
since_1970 unit _ = value.Null

-- the datetime of a year, month and day, or of these and an hour and minute
abbrev pub made_of : List Value → Value
made_of args =
    if length args == 3 then made (argument args 0) (argument args 1) (argument args 2) (value.Long (pos 0)) (value.Long (pos 0))
    else made (argument args 0) (argument args 1) (argument args 2) (argument args 3) (argument args 4)

-- what each function gives. `now` and `ago` have no moment of their own: it stands in their place before
unfoldable pub time_call : TimeFunc → List Value → Value
time_call func.Now args = value.Null
time_call func.Ago args = value.Null
time_call func.StartOfDay args = start part.Day (argument args 0)
time_call func.StartOfWeek args = start part.Week (argument args 0)
time_call func.StartOfMonth args = start part.Month (argument args 0)
time_call func.StartOfYear args = start part.Year (argument args 0)
time_call func.EndOfDay args = end part.Day (argument args 0)
time_call func.EndOfWeek args = end part.Week (argument args 0)
time_call func.EndOfMonth args = end part.Month (argument args 0)
time_call func.EndOfYear args = end part.Year (argument args 0)
time_call func.DayOfWeek args = weekday (argument args 0)
time_call func.DayOfMonth args = field_of part.Day (argument args 0)
time_call func.DayOfYear args = field_of part.DayOfYear (argument args 0)
time_call func.GetYear args = field_of part.Year (argument args 0)
time_call func.GetMonth args = field_of part.Month (argument args 0)
time_call func.MonthOfYear args = field_of part.Month (argument args 0)
time_call func.HourOfDay args = field_of part.Hour (argument args 0)
time_call func.DatetimeAdd args = moved (argument args 0) (argument args 1) (argument args 2)
time_call func.DatetimeDiff args = crossed (argument args 0) (argument args 1) (argument args 2)
time_call func.DatetimePart args = named_field (argument args 0) (argument args 1)
time_call func.MakeDatetime args = made_of args
time_call func.UnixSeconds args = since_1970 10000000 (argument args 0)
time_call func.UnixMilliseconds args = since_1970 10000 (argument args 0)
