-- The ranges of timespans and of datetimes.
use Rattle.std.specs.Prelude.{◌^◌, Bool, false, nat_le, nat_lt, Option, Some, None, if◌then◌else◌, ℤ, pos, negsuc}

-- a number of 64 bits
abbrev pub is_span : ℤ → Bool
is_span (pos n) = nat_lt n (2 ^ 63)
is_span (negsuc n) = nat_lt n (2 ^ 63)

-- a number from 0001-01-01 to 9999-12-31T23:59:59.9999999
abbrev pub is_moment : ℤ → Bool
is_moment (pos n) = nat_le n 3155378975999999999
is_moment (negsuc n) = false

-- a whole number, where it is in range
unfoldable pub fit : ℤ → Option ℤ
fit x = if is_span x then Some x else None

unfoldable pub fit_moment : ℤ → Option ℤ
fit_moment x = if is_moment x then Some x else None
