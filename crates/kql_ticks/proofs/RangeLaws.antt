-- A number that is tested against the range of datetimes is in it.
use Rattle.std.proofs.Common.{◌≡◌, ℕ, ◌≤◌, true, nat_le, inl, inr, arith, ℤ, pos, negsuc, Option, IfSome}
use Rattle.std.proofs.lemmas.Bool.{cases_Bool}
use Rattle.std.proofs.lemmas.Bool.Decides.{nat_tests}
use Rattle.std.proofs.lemmas.Int.{ints}
use Rattle.kql_cells.specs.Values.{IsMoment}
use Rattle.kql_ticks.specs.Ranges.{fit_moment}

upto : (n : ℕ) → nat_le n 3155378975999999999 ≡ true → IsMoment (pos n)
upto n e = let h : n ≤ 3155378975999999999 = grind (arith, nat_tests) in (omega (arith, ints), omega (arith, ints))

in_range : (z : ℤ) → IfSome (fit_moment z) IsMoment
unfolding fit_moment
in_range (pos n) = elim (cases_Bool (nat_le n 3155378975999999999)) [ inl t ↦ rw t (upto n t) | inr f ↦ rw f tt ]
in_range (negsuc n) = tt

pub fit_moment_gives : (r : Option ℤ) (z : ℤ) → r ≡ fit_moment z → IfSome r IsMoment
fit_moment_gives r z e = rw e (in_range z)
