-- How texts read as longs and bools.
use Rattle.std.specs.Prelude.{ℕ, ℤ, pos, neg_ℤ, ◌^◌, ◌==◌, ◌&&◌, Bool, true, false, List, [], ◌∷◌, drop, slice_index, codes, nat_le, nat_lt, Option, Some, None, if◌then◌else◌}
use Rattle.std.specs.Str.{all_ascii_digits, str_eq_ignore_ascii_case}
use Rattle.std.specs.Str.Parse.{digits_value}

-- one digit or more, and nothing else
abbrev pub is_whole : List ℕ → Bool
is_whole [] = false
is_whole (d ∷ ds) = all_ascii_digits (d ∷ ds)

-- the long that digits write, with a minus before them or none
unfoldable pub long_written : List ℕ → Option ℤ
long_written t =
    if slice_index t 0 == 45 then
    (if is_whole (drop 1 t) && nat_le (digits_value 10 (drop 1 t)) (2 ^ 63) then Some (neg_ℤ (pos (digits_value 10 (drop 1 t)))) else None)
    else (if is_whole t && nat_lt (digits_value 10 t) (2 ^ 63) then Some (pos (digits_value 10 t)) else None)

-- `true` and `false` in any case
unfoldable pub bool_written : List ℕ → Option Bool
bool_written t =
    if str_eq_ignore_ascii_case t (codes "true") then Some true
    else if str_eq_ignore_ascii_case t (codes "false") then Some false
    else None
