-- Datetimes of a day that is known.
use Rattle.std.specs.Prelude.{◌≡◌, ◌<◌, ◌+◌, ◌-◌, ◌*◌, ◌==◌, ◌&&◌, ◌%◌, ◌++◌, ◌∷◌, [], ℕ, Bool, true, List, Option, Some, None, ⊤, ℤ, pos, length, option_map, slice_index}
use Rattle.std.specs.Char.{is_ascii_digit}
use Rattle.kql_cells.specs.Values.{IsMoment}
use Rattle.kql_ticks.specs.Days.{HasDate}
use Rattle.kql_ticks.specs.Forms.{moment_in}
use Rattle.kql_ticks.specs.Texts.{clock_text, colon, date_text, digits, dot, letter_t, letter_z}

-- a text is this datetime
abbrev pub IsTicksOf : List ℕ → ℤ → Type 0
IsTicksOf text x = (option_map pos (moment_in text) ≡ Some x) × IsMoment x

-- a date and the ticks at its start, or nothing
abbrev pub IsDay : List ℕ → Option ℤ → Type 0
IsDay date None = ⊤
IsDay date (Some x) = (length date ≡ 10) × IsTicksOf date x

-- two digits write this number
abbrev pub IsPair : ℕ → ℕ → ℕ → Type 0
IsPair a b n = (is_ascii_digit a ≡ true) × (is_ascii_digit b ≡ true) × (n ≡ (a - 48) * 10 + (b - 48)) × (n < 100)

-- the bytes between the digits of a time of day as it is printed in a datetime
abbrev pub has_marks : List ℕ → Bool
has_marks t =
    (slice_index t 0 == letter_t) && (slice_index t 3 == colon) && (slice_index t 6 == colon) && (slice_index t 9 == dot) && (slice_index t 17 == letter_z)

-- the day with this number, where there is one, has this date
abbrev pub IsDated : ℕ → List ℕ → Type 0
IsDated n date = n < 3652059 → (date ≡ date_text n) × HasDate n

-- Thh:mm:ss.fffffffZ
abbrev pub time_text : ℕ → List ℕ
time_text t = letter_t ∷ clock_text (t % 864000000000) ++ dot ∷ digits 7 (t % 10000000) ++ letter_z ∷ []
