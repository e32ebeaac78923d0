-- Runs of bytes that pass a test.
use Rattle.std.specs.Prelude.{◌≡◌, ℕ, ◌+◌, ◌*◌, ◌<◌, ◌≤◌, ◌||◌, ◌==◌, Bool, true, false, not, List, [], ◌∷◌, drop, length, take, slice_index, if◌then◌else◌}
use Rattle.std.specs.Int.{w64, trailing_zeros}

-- the end of a line
abbrev pub ends_line : ℕ → Bool
ends_line b = (b == 13) || (b == 10)

-- a byte of a field without quotes: it is no comma, and does not end the line
abbrev pub is_plain : ℕ → Bool
is_plain b = not ((b == 44) || ends_line b)

-- a byte of a field in quotes: it is no quote
abbrev pub is_unquoted : ℕ → Bool
is_unquoted b = not (b == 34)

-- a byte of a field that is printed without quotes: it is no comma and no quote, and does not end the line
abbrev pub is_clear : ℕ → Bool
is_clear b = not ((b == 44) || (b == 34) || ends_line b)

-- each byte from a place up to another passes the test
abbrev pub PassesBetween : (ℕ → Bool) → List ℕ → ℕ → ℕ → Type 0
PassesBetween test text at end = (k : ℕ) → at ≤ k → k < end → test (slice_index text k) ≡ true

-- from a place to another is the longest run of bytes that pass the test
pub record IsRun (test : ℕ → Bool) (text : List ℕ) (at end : ℕ) : Type 0 where
  pub ordered : at ≤ end
  pub within : end ≤ length text
  pub pass : PassesBetween test text at end
  pub stops : end < length text → test (slice_index text end) ≡ false

-- so many of the n bytes from a place pass the test before one that does not
abbrev pub IsRunOf : ℕ → (ℕ → Bool) → List ℕ → ℕ → ℕ → Type 0
IsRunOf n test text at run = (run ≤ n) × PassesBetween test text at (at + run) × (run < n → test (slice_index text (at + run)) ≡ false)

-- the place of the lowest bit that is set, or n
abbrev pub first_set : ℕ → ℕ → ℕ
first_set mask n = if mask == 0 then n else trailing_zeros w64 mask

-- the bits of bytes, the first one's lowest: 1 where it fails the test
abbrev pub marks : (ℕ → Bool) → List ℕ → ℕ
marks test [] = 0
marks test (b ∷ bs) = (if test b then 0 else 1) + 2 * marks test bs

-- so many bytes from a place, 64 at most, have these marks of what ends a field
abbrev pub IsAhead : List ℕ → ℕ → ℕ → ℕ → Type 0
IsAhead text at bits left = (left ≤ 64) × (at + left ≤ length text) × (bits ≡ marks is_plain (take left (drop at text)))

-- the same of the bytes behind a place, if there is one
abbrev pub IsBehind : List ℕ → ℕ → ℕ → ℕ → Type 0
IsBehind text end bits left = end < length text → IsAhead text (end + 1) bits left
