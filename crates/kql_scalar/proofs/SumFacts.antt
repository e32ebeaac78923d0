-- Sums of numbers of 64 bits stay within their bounds.
use Rattle.std.proofs.Common.{◌≡◌, ◌+◌, ℕ, ℤ, arith, refl}
use Rattle.std.specs.Prelude.{None, Some, pos, neg_ℤ, ◌+ℤ◌, ◌≤ℤ◌}
use Rattle.kql_meaning.specs.Numbers.{added}
use Rattle.kql_scalar.specs.Sums.{IsSumOf}

pub added-none : added None ≡ pos 0
unfolding added
added-none = refl

pub added-some : (n : ℤ) → added (Some n) ≡ n
unfolding added
added-some n = refl

pub sum-of-none : IsSumOf 0 (pos 0)
sum-of-none = record { low = grind arith; high = grind arith }

pub sum-of-more : (count : ℕ) (sum n : ℤ) → IsSumOf count sum → neg_ℤ (pos 9223372036854775808) ≤ℤ n → n ≤ℤ pos 9223372036854775807 → IsSumOf (count + 1) (sum +ℤ n)
sum-of-more count sum n h l k = record { low = grind arith; high = grind arith }

pub sum-of-same : (count : ℕ) (sum : ℤ) → IsSumOf count sum → IsSumOf (count + 1) sum
sum-of-same count sum h = record { low = grind arith; high = grind arith }

pub ruleset sum_facts = (added-none, added-some, sum-of-none, sum-of-more, sum-of-same)
