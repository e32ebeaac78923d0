-- Carries: of no row, of one row more, and of two ranges.
use Rattle.std.proofs.Common.{◌≡◌, ◌≤◌, ◌+◌, ℕ, Bool, true, false, ℤ, refl, ap, ap₂, sym, ◌∙◌, arith}
use Rattle.std.specs.Prelude.{None, Some, pos, neg_ℤ, ◌+ℤ◌, ◌≤ℤ◌}
use Rattle.kql_cells.specs.Table.{Grid}
use Rattle.kql_bound.specs.declared.expr.WinCall.{WinCall}
use Rattle.kql_meaning.specs.Numbers.{added}
use Rattle.kql_scalar.specs.Sums.{IsSumOf}
use Rattle.window_ops.specs.Calls.{adds, begins, carry_of, restart_of, term_of}
use Rattle.window_ops.specs.Carries.{Carried, joined, stepped}
use Rattle.window_ops.proofs.CarryLaws.{carried-joined, made-same, or-false, or-true}

-- Bounds of sums.

pub added-none : added None ≡ pos 0
unfolding added
added-none = refl

pub added-some : (n : ℤ) → added (Some n) ≡ n
unfolding added
added-some n = refl

pub sum-of-zero : (count : ℕ) → IsSumOf count (pos 0)
sum-of-zero count = record { low = grind arith; high = grind arith }

pub sum-of-more : (count : ℕ) (sum n : ℤ) → IsSumOf count sum → neg_ℤ (pos 9223372036854775808) ≤ℤ n → n ≤ℤ pos 9223372036854775807 → IsSumOf (count + 1) (sum +ℤ n)
sum-of-more count sum n h l k = record { low = grind arith; high = grind arith }

pub sum-of-same : (count : ℕ) (sum : ℤ) → IsSumOf count sum → IsSumOf (count + 1) sum
sum-of-same count sum h = record { low = grind arith; high = grind arith }

pub ruleset number_steps = (added-none, added-some, sum-of-more, sum-of-same)

pub ruleset none_steps = (sum-of-zero)

-- One row more.

pub row-anew : (c : Carried) (begins : Bool) (n s : ℤ) → begins ≡ true → s ≡ pos 0 +ℤ n → record { restarts = true; sum = s; count = 1 } ≡ stepped begins n c
unfolding stepped
row-anew c begins n s t is = rw t (made-same _ _ _ _ _ _ (sym (or-true c.restarts)) is refl)

pub row-on : (c : Carried) (begins : Bool) (n s : ℤ) → begins ≡ false → s ≡ c.sum +ℤ n → record { restarts = c.restarts; sum = s; count = c.count + 1 } ≡ stepped begins n c
unfolding stepped
row-on c begins n s f is = rw f (made-same _ _ _ _ _ _ (sym (or-false c.restarts)) is refl)

pub ruleset row_steps = (row-anew, row-on, sum-of-zero)

-- Two ranges.

pub sum-of-both : (m n : ℕ) (s t : ℤ) → IsSumOf m s → IsSumOf n t → IsSumOf (m + n) (s +ℤ t)
sum-of-both m n s t h k = record { low = grind arith; high = grind arith }

pub ruleset bound_steps = (sum-of-both)

pub join-there : (a b r : Carried) → b.restarts ≡ true → r ≡ b → r ≡ joined a b
unfolding joined
join-there a b r t is = is ∙ sym (rw t refl)

pub join-on : (a b x y : Carried) (s : ℤ) → x ≡ a → y ≡ b → y.restarts ≡ false → s ≡ x.sum +ℤ y.sum → record { restarts = x.restarts; sum = s; count = x.count + y.count } ≡ joined a b
unfolding joined
join-on a b x y s e g f is = rw (← e, ← g, f) (ap (λ n. record { restarts = x.restarts; sum = n; count = x.count + y.count }) is)

pub ruleset join_steps = (join-there)

pub join-both : (a b r : Carried) → r ≡ joined a b → (w : WinCall) (t : Grid) (i j k : ℕ) → i ≤ j → j ≤ k → a ≡ carry_of w t i j → b ≡ carry_of w t j k → r ≡ carry_of w t i k
unfolding carry_of
join-both a b r made w t i j k l m x y = made ∙ (ap₂ joined x y ∙ carried-joined (begins (restart_of w) t) (adds (term_of w) t) i j k l m)
