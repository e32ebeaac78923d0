-- How many terms a range has.
use Rattle.std.proofs.Common.{◌≡◌, ℕ, true, false, arith}
use Rattle.std.specs.Prelude.{ℤ, ◌-ℤ◌, ◌/◌, int_le, nat_le, nat_lt, unsigned_abs}
use Rattle.kql_meaning.specs.Numbers.{count_of_terms}

pub terms-none : (a b s : ℤ) (top : ℕ) → int_le a b ≡ false → nat_le (count_of_terms a b s) top ≡ true
unfolding count_of_terms
terms-none a b s top f = rw f (grind arith)

pub terms-some : (a b s : ℤ) (top : ℕ) → int_le a b ≡ true → nat_le (count_of_terms a b s) top ≡ nat_lt (unsigned_abs (b -ℤ a) / unsigned_abs s) top
unfolding count_of_terms
terms-some a b s top t = rw t (grind arith)

pub ruleset terms_steps = (terms-none, terms-some)
