-- The texts that datetimes and timespans print as.
use Rattle.std.specs.Prelude.{ℕ, zero, suc, ◌+◌, ◌/◌, ◌%◌, nat_lt, ◌==◌, ◌||◌, Bool, if◌then◌else◌, List, [], ◌∷◌, ◌++◌, ℤ, pos, negsuc, unsigned_abs}
use Rattle.std.specs.Char.{is_ascii_digit}
use Rattle.kql_ticks.specs.Days.{year_on, month_on, day_on}
use Rattle.kql_ticks.specs.Periods.{day_at}

-- the last w decimal digits of a number
unfoldable pub digits : ℕ → ℕ → List ℕ
digits zero n = []
digits (suc w) n = digits w (n / 10) ++ (48 + n % 10) ∷ []

-- the bytes `+`, `-`, `.`, `:`, `T`, `Z` and a space
abbrev pub plus : ℕ
plus = 43

abbrev pub dash : ℕ
dash = 45

abbrev pub dot : ℕ
dot = 46

abbrev pub colon : ℕ
colon = 58

abbrev pub letter_t : ℕ
letter_t = 84

abbrev pub letter_z : ℕ
letter_z = 90

abbrev pub space : ℕ
space = 32

-- whether a printed datetime or timespan can have this byte
abbrev pub is_of_time : ℕ → Bool
is_of_time b = is_ascii_digit b || (b == dash) || (b == dot) || (b == colon) || (b == letter_t) || (b == letter_z)

-- yyyy-mm-dd
unfoldable pub date_text : ℕ → List ℕ
date_text n = digits 4 (year_on n) ++ dash ∷ [] ++ digits 2 (month_on n) ++ dash ∷ [] ++ digits 2 (day_on n)

-- hh:mm:ss
unfoldable pub clock_text : ℕ → List ℕ
clock_text t =
    digits 2 (t / 36000000000) ++ colon ∷ [] ++ digits 2 (t % 36000000000 / 600000000) ++ colon ∷ [] ++ digits 2 (t % 600000000 / 10000000)

-- yyyy-mm-ddThh:mm:ss.fffffffZ
unfoldable pub moment_text : ℕ → List ℕ
moment_text t =
    date_text (day_at t) ++ letter_t ∷ [] ++ clock_text (t % 864000000000) ++ dot ∷ [] ++ digits 7 (t % 10000000) ++ letter_z ∷ []

-- how many digits a number below 100000000 has
abbrev pub width_of : ℕ → ℕ
width_of n =
    if nat_lt n 10 then 1 else (
    if nat_lt n 100 then 2 else (
    if nat_lt n 1000 then 3 else (
    if nat_lt n 10000 then 4 else (
    if nat_lt n 100000 then 5 else (
    if nat_lt n 1000000 then 6 else (
    if nat_lt n 10000000 then 7 else 8))))))

-- `d.`, or nothing for no day
unfoldable pub days_text : ℕ → List ℕ
days_text d = if d == 0 then [] else digits (width_of d) d ++ dot ∷ []

-- `.fffffff`, or nothing for none
unfoldable pub fraction_text : ℕ → List ℕ
fraction_text f = if f == 0 then [] else dot ∷ digits 7 f

-- `-` below zero
abbrev pub sign_text : ℤ → List ℕ
sign_text (pos n) = []
sign_text (negsuc n) = dash ∷ []

-- [d.]hh:mm:ss[.fffffff]
unfoldable pub length_text : ℕ → List ℕ
length_text n =
    days_text (n / 864000000000) ++ clock_text (n % 864000000000) ++ fraction_text (n % 10000000)

-- [-][d.]hh:mm:ss[.fffffff]
abbrev pub span_text : ℤ → List ℕ
span_text z = sign_text z ++ length_text (unsigned_abs z)
