-- How large sums of numbers of 64 bits can be.
use Rattle.std.specs.Prelude.{ℕ, ℤ, pos, neg_ℤ, ◌*◌, ◌≤ℤ◌}

-- The sum of so many numbers of 64 bits is within these bounds.
pub record IsSumOf (count : ℕ) (sum : ℤ) : Type 0 where
  pub low : neg_ℤ (pos (count * 9223372036854775808)) ≤ℤ sum
  pub high : sum ≤ℤ pos (count * 9223372036854775808)
