-- Decimal digits as numbers.
use Rattle.std.specs.Prelude.{ℕ, ◌+◌, ◌-◌, ◌*◌, ◌/◌, ◌%◌, ◌^◌, length, nat_le, nat_lt, ◌&&◌, ◌==◌, if◌then◌else◌, List, [], ◌∷◌, Option, Some, None, option_and_then}
use Rattle.std.specs.Str.{all_ascii_digits}

-- `?`
infixl 10 ◌>>=◌
abbrev pub ◌>>=◌ : {A B : Type 0} → Option A → (A → Option B) → Option B
o >>= f = option_and_then f o

-- a number below 10^19, which every number of a form is, since what it counts would else be out of range
abbrev pub in_bounds : ℕ → Option ℕ
in_bounds n = if nat_lt n 10000000000000000000 then Some n else None

-- the number that digits write
unfoldable pub value : List ℕ → ℕ
value [] = 0
value (b ∷ bs) = (b - 48) * 10 ^ length bs + value bs

-- the number that one or more digits write
unfoldable pub number : List ℕ → Option ℕ
number t = if nat_le 1 (length t) && all_ascii_digits t then in_bounds (value t) else None

-- n / m, where that is whole
abbrev pub exact : ℕ → ℕ → Option ℕ
exact n m = if n % m == 0 then Some (n / m) else None

-- the share of a unit that digits after the point are, where that is whole
unfoldable pub share : ℕ → List ℕ → Option ℕ
share unit bs = if all_ascii_digits bs then exact (value bs * unit) (10 ^ length bs) else None
