-- The bin of a number.
use Rattle.std.proofs.Common.{◌≡◌, zero, suc, ◌<◌, true, false, if◌then◌else◌, Some, None, arith, ℤ, pos, negsuc, ◌-ℤ◌, unsigned_abs, FitsSigned, w64, IfSome}
use Rattle.std.specs.Int.{w128, int_div_euclid, int_rem_euclid}
use Rattle.std.specs.Int.Signed.{le_z}
use Rattle.std.proofs.lemmas.Bool.Decides.{nat_tests}
use Rattle.jiff_core.proofs.SignedLemmas.{signed_arith, int_div_euclid-parts, int_rem_euclid-parts}
use Rattle.kql_ticks.specs.Bins.{IsBin, bin_at}
use Rattle.kql_ticks.specs.Ranges.{fit, is_span}

pub bin_at-positive : (x s f : ℤ) → le_z s (pos 0) ≡ false → bin_at x s f ≡ fit (x -ℤ int_rem_euclid (x -ℤ f) s)
bin_at-positive x (pos zero) f h = cc
bin_at-positive x (pos (suc n)) f h = grind (arith, nat_tests)
bin_at-positive x (negsuc n) f h = cc

pub bin_is : (x s f : ℤ) → le_z s (pos 0) ≡ false → IsBin x s f (x -ℤ int_rem_euclid (x -ℤ f) s)
bin_is x (pos zero) f h = cc
bin_is x (pos (suc n)) f h = record {
  k = int_div_euclid (x -ℤ f) (pos (suc n));
  start = omega (arith, signed_arith, int_div_euclid-parts (x -ℤ f) (suc n), int_rem_euclid-parts (x -ℤ f) (suc n));
  below = omega (arith, signed_arith, int_div_euclid-parts (x -ℤ f) (suc n), int_rem_euclid-parts (x -ℤ f) (suc n));
  next = omega (arith, signed_arith, int_div_euclid-parts (x -ℤ f) (suc n), int_rem_euclid-parts (x -ℤ f) (suc n));
}
bin_is x (negsuc n) f h = cc

pub fit_is : (z : ℤ) (P : ℤ → Type 0) → P z → IfSome (fit z) P
unfolding fit
fit_is z P h = elim (is_span z) as (λ b. IfSome (if b then Some z else None) P) [ true ↦ h | false ↦ tt ]

-- a distance below a size of 64 bits, taken from a number of 64 bits
pub fits_less : (x s o : ℤ) → FitsSigned w64 x → FitsSigned w64 s → unsigned_abs o < unsigned_abs s → FitsSigned w128 (x -ℤ o)
fits_less x (pos s) (pos o) fx fs h = omega (arith, signed_arith)
fits_less x (pos s) (negsuc o) fx fs h = omega (arith, signed_arith)
fits_less x (negsuc s) (pos o) fx fs h = omega (arith, signed_arith)
fits_less x (negsuc s) (negsuc o) fx fs h = omega (arith, signed_arith)
