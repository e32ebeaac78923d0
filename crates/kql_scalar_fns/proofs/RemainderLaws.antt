-- The laws of `%`.
use Rattle.std.proofs.Common.{◌≡◌, ◌≢◌, ◌*◌, ◌/◌, ℕ, zero, suc, refl, ap, arith}
use Rattle.std.specs.Prelude.{ℤ, pos, negsuc, neg_ℤ, ◌*ℤ◌, Some}
use Rattle.std.specs.Int.{int_rem_euclid}
use Rattle.std.proofs.lemmas.Int.{ints}
use Rattle.kql_scalar_fns.specs.Applied.{applied}
use Rattle.kql_scalar_fns.specs.Arguments.{argument, long_or_null}
use Rattle.kql_scalar_fns.specs.Arithmetic.{arithmetic, remainder, remainder_of}
use Rattle.kql_scalar_fns.specs.Laws.{IsRemainder, RemainderIsTaken, ZeroHasNoRemainder}

turned : (m q : ℕ) → negsuc m *ℤ neg_ℤ (pos q) ≡ pos (suc m * q)
turned m zero = omega (arith, ints)
turned m (suc q) = omega (arith, ints)

of-euclid : (n d : ℤ) → d ≢ pos 0 → IsRemainder n d (int_rem_euclid n d)
of-euclid n (pos zero) h = absurd (h refl)
of-euclid (pos a) (pos (suc m)) h = record {
  multiple = pos (a / suc m);
  sum = omega (arith, ints);
  low = omega (arith, ints);
  high = omega (arith, ints);
}
of-euclid (negsuc a) (pos (suc m)) h = record {
  multiple = negsuc (a / suc m);
  sum = omega (arith, ints);
  low = omega (arith, ints);
  high = omega (arith, ints);
}
of-euclid (pos a) (negsuc m) h = record {
  multiple = neg_ℤ (pos (a / suc m));
  sum = rw (turned m (a / suc m)) (omega (arith, ints));
  low = omega (arith, ints);
  high = omega (arith, ints);
}
of-euclid (negsuc a) (negsuc m) h = record {
  multiple = pos (suc (a / suc m));
  sum = omega (arith, ints);
  low = omega (arith, ints);
  high = omega (arith, ints);
}

taken : (n d : ℤ) → d ≢ pos 0 → remainder_of n d ≡ Some (int_rem_euclid n d)
taken n (pos zero) h = absurd (h refl)
taken n (pos (suc m)) h = refl
taken n (negsuc m) h = refl

pub remainder-is-taken : RemainderIsTaken
unfolding applied arithmetic argument remainder
remainder-is-taken n d h = (int_rem_euclid n d, ap long_or_null (taken n d h), of-euclid n d h)

pub zero-has-none : ZeroHasNoRemainder
unfolding applied arithmetic argument remainder
zero-has-none n = refl
