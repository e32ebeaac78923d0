-- Datetimes with a zone.
use Rattle.std.proofs.Common.{◌≡◌, ◌≤◌, ℕ, true, nat_le, refl, sym, inl, inr, ap, ◌∙◌, arith, ℤ, pos, negsuc, Some, option_map}
use Rattle.std.proofs.lemmas.Bool.{cases_Bool}
use Rattle.std.proofs.lemmas.Bool.Decides.{nat_tests}
use Rattle.kql_ticks.specs.Forms.{ticks_in_range}
use Rattle.kql_ticks.specs.Ranges.{fit_moment, is_moment}

-- the ticks in range are the datetime itself
pub ticks_in_range_is : (x : ℤ) → option_map pos (ticks_in_range x) ≡ fit_moment x
unfolding ticks_in_range fit_moment
ticks_in_range_is (pos n) = elim (cases_Bool (is_moment (pos n))) [
  | inl t ↦ rw t refl
  | inr f ↦ rw f refl
]
ticks_in_range_is (negsuc n) = refl

-- ticks that are in range
ticks_of : (n : ℕ) → n ≤ 3155378975999999999 → ticks_in_range (pos n) ≡ Some n
unfolding ticks_in_range fit_moment
ticks_of n h = let e : nat_le n 3155378975999999999 ≡ true = grind (arith, nat_tests) in rw e refl

pub ticks_are : (x : ℤ) (n : ℕ) → x ≡ pos n → n ≤ 3155378975999999999 → ticks_in_range x ≡ Some n
ticks_are x n e h = ap ticks_in_range e ∙ ticks_of n h

pub tick-is : (n : ℕ) (x : ℤ) → option_map pos (ticks_in_range (pos n)) ≡ Some x → (x ≡ pos n) × (n ≤ 3155378975999999999)
unfolding ticks_in_range fit_moment
tick-is n x e = elim (cases_Bool (nat_le n 3155378975999999999)) [
  | inl t ↦ let held = rw t at e in (sym (cc held), grind (arith, nat_tests))
  | inr f ↦ let none = rw f at e in cc none
]
