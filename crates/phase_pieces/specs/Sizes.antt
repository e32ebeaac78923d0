-- How many rows a piece has, and how many pieces there are.
use Rattle.std.specs.Prelude.{◌≡◌, ◌<◌, ◌≤◌, ◌+◌, ◌*◌, ◌^◌, ℕ}

-- So many rows as are asked for, or twice as many, and so on: the least of these sizes of which 2,147,483,647 pieces hold all.
pub record IsPieceSize (count asked rows : ℕ) : Type 0 where
  pub times : ℕ
  pub doubled : rows ≡ asked * 2 ^ times
  pub needed : (fewer : ℕ) → fewer < times → 2147483647 * (asked * 2 ^ fewer) < count
  pub enough : count ≤ 2147483647 * rows

-- So many pieces of that size hold all, and one less would not.
pub record ArePieces (count asked pieces : ℕ) : Type 0 where
  pub rows : ℕ
  pub size : IsPieceSize count asked rows
  pub all : count ≤ pieces * rows
  pub each : pieces * rows < count + rows
