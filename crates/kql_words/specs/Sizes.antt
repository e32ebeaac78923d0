-- SIZE: a number of bytes in digits, or digits directly followed by KiB, MiB or GiB; from 1 byte to 1 TiB.
use Rattle.std.specs.Prelude.{ℕ, ◌-◌, ◌*◌, ◌^◌, ◌&&◌, eqb, nat_le, nat_lt, List, length, take, Option, Some, None, codes, if◌then◌else◌}
use Rattle.std.specs.List.{ends_with}
use Rattle.std.specs.Option.{option_and_then}
use Rattle.std.specs.Str.Parse.{digits_value}
use Rattle.kql_cells.specs.Readings.{is_whole}

-- the number below 2^64 that a word writes in digits
unfoldable pub count_in : List ℕ → Option ℕ
count_in word = if is_whole word && nat_lt (digits_value 10 word) (2 ^ 64) then Some (digits_value 10 word) else None

-- 1 TiB
abbrev pub size_top : ℕ
size_top = 2 ^ 40

-- n units of so many bytes each
abbrev pub size_at : ℕ → ℕ → Option ℕ
size_at unit n = if nat_le 1 n && nat_le (n * unit) size_top then Some (n * unit) else None

-- what digits write, in units of so many bytes
abbrev pub size_of : ℕ → List ℕ → Option ℕ
size_of unit digits = option_and_then (size_at unit) (count_in digits)

-- what stands before the last letters of a word
abbrev pub before_letters : List ℕ → List ℕ → List ℕ
before_letters letters word = take (length word - length letters) word

-- the number of bytes that a word writes
unfoldable pub size_in : List ℕ → Option ℕ
size_in word =
    if ends_with eqb word (codes "KiB") then size_of (2 ^ 10) (before_letters (codes "KiB") word)
    else if ends_with eqb word (codes "MiB") then size_of (2 ^ 20) (before_letters (codes "MiB") word)
    else if ends_with eqb word (codes "GiB") then size_of (2 ^ 30) (before_letters (codes "GiB") word)
    else size_of 1 word
