-- From the first and last days of a period to its first and last ticks.
use Rattle.std.proofs.Common.{◌≡◌, ◌≢◌, ℕ, ◌+◌, ◌-◌, ◌*◌, true, false, Some, None, if◌then◌else◌, refl, sym, ap, ◌∙◌, arith, ℤ, pos, negsuc, ◌-ℤ◌, ◌*ℤ◌, ◌≤ℤ◌, ◌<ℤ◌, unsigned_abs, IfSome}
use Rattle.jiff_core.proofs.SignedLemmas.{signed_arith}
use Rattle.kql_ticks.specs.declared.part.Part.{Part}
use Rattle.kql_ticks.specs.declared.part.Part.TheVariants as part
use Rattle.kql_ticks.specs.Periods.{HasBounds, day_at, day_period, period}
use Rattle.kql_ticks.specs.Ranges.{fit_moment, is_moment}

-- a part with bounds is a period of whole days
pub period-days : (p : Part) (t : ℕ) → HasBounds p → period p t ≡ day_period p (day_at t)
period-days part.Year t h = refl
period-days part.Quarter t h = refl
period-days part.Month t h = refl
period-days part.Week t h = refl
period-days part.Day t h = refl
period-days part.DayOfYear t h = refl
period-days part.Hour t h = absurd h
period-days part.Minute t h = absurd h
period-days part.Second t h = absurd h
period-days part.Millisecond t h = absurd h
period-days part.Microsecond t h = absurd h

fit_moment_is : (z : ℤ) (P : ℤ → Type 0) → ((n : ℕ) → z ≡ pos n → P (pos n)) → IfSome (fit_moment z) P
unfolding fit_moment
fit_moment_is (pos n) P h = elim (is_moment (pos n)) as (λ b. IfSome (if b then Some (pos n) else None) P) [ true ↦ h n refl | false ↦ tt ]
fit_moment_is (negsuc n) P h = tt

-- ---- the first tick

pub start_below : (first x : ℤ) (t : ℕ) → pos t ≡ x → first ≤ℤ pos (day_at t) → IfSome (fit_moment (first *ℤ pos 864000000000)) (λ s. s ≤ℤ x)
start_below first x t e h = fit_moment_is _ _ (λ n z. omega (arith, signed_arith))

start_day : (first : ℤ) (n : ℕ) → first *ℤ pos 864000000000 ≡ pos n → (k : ℕ) × (first ≡ pos k) × (n ≡ 864000000000 * k)
start_day (pos k) n e = (k, refl, omega (arith, signed_arith))
start_day (negsuc k) n e = absurd (omega (arith, signed_arith))

pub start_same : (p : Part) (first : ℤ) (t : ℕ) → HasBounds p → (pos 0 ≤ℤ first → day_period p (unsigned_abs first) ≡ day_period p (day_at t)) → IfSome (fit_moment (first *ℤ pos 864000000000)) (λ s. period p (unsigned_abs s) ≡ period p t)
start_same p first t b h =
    fit_moment_is _ _ (λ n z.
    let k = start_day first n z in
    let low : pos 0 ≤ℤ first = omega (arith, signed_arith, k.1) in
    let day : day_at n ≡ k.0 = omega (arith, k.2) in
    period-days p n b ∙ rw day (rw k.1 at (h low)) ∙ sym (period-days p t b))

pub start_before : (p : Part) (first : ℤ) (t : ℕ) → HasBounds p → (pos 0 <ℤ first → day_period p (unsigned_abs first - 1) ≢ day_period p (day_at t)) → IfSome (fit_moment (first *ℤ pos 864000000000)) (λ s. pos 0 <ℤ s → period p (unsigned_abs s - 1) ≢ period p t)
start_before p first t b h =
    fit_moment_is _ _ (λ n z above.
    let k = start_day first n z in
    let low : pos 0 <ℤ first = omega (arith, signed_arith, k.1, k.2) in
    let day : day_at (n - 1) ≡ k.0 - 1 = omega (arith, signed_arith, k.2) in
    let other = rw k.1 at (h low) in
    λ same. other (sym (ap (day_period p) day) ∙ sym (period-days p (n - 1) b) ∙ same ∙ period-days p t b))

-- ---- the last tick

pub end_above : (next x : ℤ) (t : ℕ) → pos t ≡ x → pos (day_at t) <ℤ next → IfSome (fit_moment (next *ℤ pos 864000000000 -ℤ pos 1)) (λ s. x ≤ℤ s)
end_above next x t e h = fit_moment_is _ _ (λ n z. omega (arith, signed_arith))

end_day : (next : ℤ) (n : ℕ) → next *ℤ pos 864000000000 -ℤ pos 1 ≡ pos n → (k : ℕ) × (next ≡ pos k) × (n + 1 ≡ 864000000000 * k)
end_day (pos k) n e = (k, refl, omega (arith, signed_arith))
end_day (negsuc k) n e = absurd (omega (arith, signed_arith))

pub end_same : (p : Part) (next : ℤ) (t : ℕ) → HasBounds p → day_period p (unsigned_abs next - 1) ≡ day_period p (day_at t) → IfSome (fit_moment (next *ℤ pos 864000000000 -ℤ pos 1)) (λ s. period p (unsigned_abs s) ≡ period p t)
end_same p next t b h =
    fit_moment_is _ _ (λ n z.
    let k = end_day next n z in
    let day : day_at n ≡ k.0 - 1 = omega (arith, k.2) in
    period-days p n b ∙ rw day (rw k.1 at h) ∙ sym (period-days p t b))

pub end_after : (p : Part) (next : ℤ) (t : ℕ) → HasBounds p → (next <ℤ pos 3652059 → day_period p (unsigned_abs next) ≢ day_period p (day_at t)) → IfSome (fit_moment (next *ℤ pos 864000000000 -ℤ pos 1)) (λ s. s <ℤ pos 3155378975999999999 → period p (unsigned_abs s + 1) ≢ period p t)
end_after p next t b h =
    fit_moment_is _ _ (λ n z below.
    let k = end_day next n z in
    let low : next <ℤ pos 3652059 = omega (arith, signed_arith, k.1, k.2) in
    let day : day_at (n + 1) ≡ k.0 = omega (arith, k.2) in
    let other = rw k.1 at (h low) in
    λ same. other (sym (ap (day_period p) day) ∙ sym (period-days p (n + 1) b) ∙ same ∙ period-days p t b))
