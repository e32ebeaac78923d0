-- A number of ticks is a datetime where it lies between the two ends.
use Rattle.std.proofs.Common.{◌≡◌, ◌&&◌, refl, sym, ap, ℤ, pos, negsuc, int_le}
use Rattle.std.proofs.Math.Dec.{leb-zero}
use Rattle.kql_ticks.specs.Ranges.{is_moment}

pub moment_is : (x : ℤ) → is_moment x ≡ (int_le (pos 0) x && int_le x (pos 3155378975999999999))
moment_is (pos n) = sym (ap (λ b. b && int_le (pos n) (pos 3155378975999999999)) (leb-zero n))
moment_is (negsuc n) = refl
