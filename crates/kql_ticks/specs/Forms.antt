-- Which texts are datetimes and timespans, and of how many ticks.
use Rattle.std.specs.Prelude.{ℕ, ◌+◌, ◌-◌, ◌*◌, nat_le, nat_lt, ◌==◌, Bool, not, ◌&&◌, ◌||◌, if◌then◌else◌, List, [], ◌∷◌, length, take, drop, slice_index, slice_range, Option, Some, None, option_map, ℤ, pos, negsuc, neg_ℤ, ◌+ℤ◌, ◌-ℤ◌, codes}
use Rattle.std.specs.Char.{is_ascii_digit}
use Rattle.std.specs.List.{list_all, position}
use Rattle.std.specs.Str.{bytes_eq}
use Rattle.jiff_core.specs.Calendar.{days_in_month}
use Rattle.kql_ticks.specs.Days.{date_number}
use Rattle.kql_ticks.specs.Numbers.{◌>>=◌, number, share}
use Rattle.kql_ticks.specs.Ranges.{fit, fit_moment}
use Rattle.kql_ticks.specs.Texts.{dash, dot, colon, letter_t, plus, space}

-- the calendar has this date
abbrev pub is_date : ℕ → ℕ → ℕ → Bool
is_date y m d =
    nat_le 1 y && nat_le y 9999 && nat_le 1 m && nat_le m 12 && nat_le 1 d && nat_le d (days_in_month (pos y) m)

-- the day of a date
unfoldable pub day_of_date : ℕ → ℕ → ℕ → Option ℕ
day_of_date y m d = if is_date y m d then Some (date_number y m d) else None

-- yyyy-mm-dd, as a day
unfoldable pub date_in : List ℕ → Option ℕ
date_in t =
    if (length t == 10) && (slice_index t 4 == dash) && (slice_index t 7 == dash)
    then number (slice_range t 0 4) >>= (λ y. number (slice_range t 5 7) >>= (λ m. number (slice_range t 8 10) >>= (λ d. day_of_date y m d)))
    else None

-- hh:mm
unfoldable pub minutes_in : List ℕ → Option ℕ
minutes_in t =
    if (length t == 5) && (slice_index t 2 == colon)
    then number (slice_range t 0 2) >>= (λ h. number (slice_range t 3 5) >>= (λ m.
    if nat_lt h 24 && nat_lt m 60 then Some (36000000000 * h + 600000000 * m) else None))
    else None

-- `.` and one to seven digits of a second, or nothing
unfoldable pub fraction_in : List ℕ → Option ℕ
fraction_in [] = Some 0
fraction_in (b ∷ bs) =
    if (b == dot) && nat_le 1 (length bs) && nat_le (length bs) 7 then share 10000000 bs else None

-- `:ss` and maybe a fraction, or nothing
unfoldable pub seconds_in : List ℕ → Option ℕ
seconds_in [] = Some 0
seconds_in (b ∷ bs) =
    if (b == colon) && nat_le 2 (length bs)
    then number (slice_range bs 0 2) >>= (λ s. fraction_in (drop 2 bs) >>= (λ f.
    if nat_lt s 60 then Some (10000000 * s + f) else None))
    else None

-- hh:mm, hh:mm:ss or hh:mm:ss and a fraction
unfoldable pub time_in : List ℕ → Option ℕ
time_in t = minutes_in (take 5 t) >>= (λ m. seconds_in (drop 5 t) >>= (λ s. Some (m + s)))

-- a time whose fraction may have nine digits: those behind the seventh, which ends at 16, are cut off
unfoldable pub long_time_in : List ℕ → Option ℕ
long_time_in t =
    if nat_le (length t) 16 then time_in t else (
    if nat_le (length t) 18 && list_all is_ascii_digit (drop 16 t) then time_in (take 16 t) else None)

-- hh:mm or hhmm
unfoldable pub offset_in : List ℕ → Option ℕ
offset_in (a ∷ b ∷ c ∷ d ∷ []) = minutes_in (a ∷ b ∷ colon ∷ c ∷ d ∷ [])
offset_in t = minutes_in t

-- `Z`, ` UTC`, or a sign and an offset: so far is a time ahead of UTC
unfoldable pub zone_in : List ℕ → Option ℤ
zone_in [] = None
zone_in (b ∷ bs) =
    if bytes_eq (b ∷ bs) (codes "Z") || bytes_eq (b ∷ bs) (codes " UTC") then Some (pos 0) else (
    if b == plus then option_map pos (offset_in bs) else (
    if b == dash then option_map (λ n. neg_ℤ (pos n)) (offset_in bs) else None))

-- the bytes of a time without its zone
abbrev pub is_of_clock : ℕ → Bool
is_of_clock b = is_ascii_digit b || (b == dot) || (b == colon)

-- a time and maybe its zone, which begins at i: in UTC, where the day before may have begun or the day be over
unfoldable pub zoned_in : Option ℕ → List ℕ → Option ℤ
zoned_in None t = option_map pos (long_time_in t)
zoned_in (Some i) t = long_time_in (take i t) >>= (λ c. zone_in (drop i t) >>= (λ z. Some (pos c -ℤ z)))

-- `T` or a space, a time and maybe its zone; or nothing
unfoldable pub time_of_day_in : List ℕ → Option ℤ
time_of_day_in [] = Some (pos 0)
time_of_day_in (b ∷ bs) =
    if (b == letter_t) || (b == space) then zoned_in (position (λ b. not (is_of_clock b)) bs) bs else None

-- the size of a number that is not negative
abbrev pub size_of : ℤ → Option ℕ
size_of (pos n) = Some n
size_of (negsuc n) = None

-- the ticks of a datetime, where they are in range
unfoldable pub ticks_in_range : ℤ → Option ℕ
ticks_in_range x = fit_moment x >>= size_of

-- a datetime
unfoldable pub moment_in : List ℕ → Option ℕ
moment_in t = date_in (take 10 t) >>= (λ d. time_of_day_in (drop 10 t) >>= (λ c. ticks_in_range (pos (864000000000 * d) +ℤ c)))

-- the days of a timespan and their `.`, or nothing
unfoldable pub days_in : List ℕ → Option ℕ
days_in [] = Some 0
days_in (b ∷ bs) =
    if slice_index (b ∷ bs) (length bs) == dot then number (take (length bs) (b ∷ bs)) else None

-- [d.]hh:mm:ss[.fffffff], whose first colon is at c
unfoldable pub clock_in : ℕ → List ℕ → Option ℕ
clock_in c t =
    if nat_le 2 c && nat_le (c + 6) (length t)
    then days_in (take (c - 2) t) >>= (λ d. time_in (drop (c - 2) t) >>= (λ s. Some (864000000000 * d + s)))
    else None

-- the ticks of a unit
unfoldable pub unit_in : List ℕ → Option ℕ
unit_in t =
    if bytes_eq t (codes "d") then Some 864000000000 else (
    if bytes_eq t (codes "h") then Some 36000000000 else (
    if bytes_eq t (codes "m") then Some 600000000 else (
    if bytes_eq t (codes "s") then Some 10000000 else (
    if bytes_eq t (codes "ms") then Some 10000 else (
    if bytes_eq t (codes "microsecond") then Some 10 else (
    if bytes_eq t (codes "tick") then Some 1 else None))))))

-- the digits after the point
unfoldable pub decimals_in : ℕ → List ℕ → Option ℕ
decimals_in unit [] = None
decimals_in unit (b ∷ bs) = share unit (b ∷ bs)

-- so many units, whole or with a decimal fraction, where the ticks come out whole; the point is at i
unfoldable pub amount_in : ℕ → Option ℕ → List ℕ → Option ℕ
amount_in unit None t = number t >>= (λ n. Some (unit * n))
amount_in unit (Some i) t =
    number (take i t) >>= (λ n. decimals_in unit (drop (i + 1) t) >>= (λ f. Some (unit * n + f)))

-- the bytes of a number
abbrev pub is_of_number : ℕ → Bool
is_of_number b = is_ascii_digit b || (b == dot)

-- a number and a unit, which begins at i
unfoldable pub quantity_in : Option ℕ → List ℕ → Option ℕ
quantity_in None t = None
quantity_in (Some i) t =
    unit_in (drop i t) >>= (λ unit. amount_in unit (position (λ b. b == dot) (take i t)) (take i t))

-- a timespan without its sign
unfoldable pub length_from : Option ℕ → List ℕ → Option ℕ
length_from (Some c) t = clock_in c t
length_from None t = quantity_in (position (λ b. not (is_of_number b)) t) t

unfoldable pub length_in : List ℕ → Option ℕ
length_in t = length_from (position (λ b. b == colon) t) t

-- a timespan
unfoldable pub span_in : List ℕ → Option ℤ
span_in [] = None
span_in (b ∷ bs) =
    if b == dash then length_in bs >>= (λ n. fit (neg_ℤ (pos n))) else length_in (b ∷ bs) >>= (λ n. fit (pos n))

-- the datetime of these fields
unfoldable pub moment_of : ℕ → ℕ → ℕ → ℕ → ℕ → Option ℕ
moment_of y m d h mi =
    day_of_date y m d >>= (λ n.
    if nat_lt h 24 && nat_lt mi 60 then Some (864000000000 * n + (36000000000 * h + 600000000 * mi)) else None)

-- the same, where none of them is negative
unfoldable pub moment_at : ℤ → ℤ → ℤ → ℤ → ℤ → Option ℕ
moment_at y m d h mi =
    size_of y >>= (λ y. size_of m >>= (λ m. size_of d >>= (λ d. size_of h >>= (λ h. size_of mi >>= (λ mi. moment_of y m d h mi)))))
