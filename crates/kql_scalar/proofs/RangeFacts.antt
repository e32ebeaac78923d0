-- A checked step of 64 bits is the whole number where it is in range.
use Rattle.std.proofs.Common.{◌≡◌, ◌<◌, ◌^◌, ℕ, zero, suc, refl, arith, w64, lt_irrefl}
use Rattle.std.specs.Prelude.{ℤ, pos, negsuc, int_div, Option, Some, None, nat_lt, true, if◌then◌else◌, FitsSigned}
use Rattle.std.specs.Int.{CanDivide}
use Rattle.std.specs.Option.{SomeIff}
use Rattle.std.proofs.lemmas.Bool.{cases_Bool}
use Rattle.std.proofs.lemmas.Bool.Decides.{nat_tests}
use Rattle.std.proofs.Common.{inl, inr}
use Rattle.kql_ticks.specs.Ranges.{fit}
use Rattle.kql_scalar_fns.specs.Arithmetic.{quotient_of}

below : (n m : ℕ) → nat_lt n m ≡ true → n < m
below n m e = grind (arith, nat_tests)

above : (n m : ℕ) → n < m → nat_lt n m ≡ true
above n m e = grind (arith, nat_tests)

by_test : (r : Option ℤ) (z : ℤ) (n : ℕ) → SomeIff r (FitsSigned w64 z) z → (FitsSigned w64 z → n < 2 ^ 63) → (n < 2 ^ 63 → FitsSigned w64 z) → r ≡ (if nat_lt n (2 ^ 63) then Some z else None)
by_test (Some x) z n h f g = rw (above _ _ (f h.0), h.1) refl
by_test None z n h f g = elim (cases_Bool (nat_lt n (2 ^ 63))) [ inl t ↦ absurd (h (g (below _ _ t))) | inr e ↦ rw e refl ]

pub fit-checked : (r : Option ℤ) (z : ℤ) → SomeIff r (FitsSigned w64 z) z → r ≡ fit z
unfolding fit
fit-checked r (pos n) h = by_test r (pos n) n h (λ f. f.sfits) (λ l. record { sfits = l })
fit-checked r (negsuc n) h = by_test r (negsuc n) n h (λ f. f.sfits) (λ l. record { sfits = l })

-- a test that has to hold besides, and does
to_fit : (r : Option ℤ) (z : ℤ) (P : Type 0) → P → SomeIff r (P × FitsSigned w64 z) z → SomeIff r (FitsSigned w64 z) z
to_fit (Some x) z P p h = (h.0.1, h.1)
to_fit None z P p h = λ f. h (p, f)

pub quotient-checked : (r : Option ℤ) (a b : ℤ) → FitsSigned w64 b → SomeIff r (CanDivide w64 a b) (int_div a b) → r ≡ quotient_of a b
quotient-checked None a (pos zero) f h = refl
quotient-checked (Some x) a (pos zero) f h = absurd (lt_irrefl 0 h.0.0)
quotient-checked r a (pos (suc n)) f h = fit-checked r _ (to_fit r _ _ (omega arith) h)
quotient-checked r a (negsuc n) f h = let l : n < 2 ^ 63 = f.sfits in fit-checked r _ (to_fit r _ _ (omega arith) h)

pub ruleset fit_facts = (fit-checked, quotient-checked)
