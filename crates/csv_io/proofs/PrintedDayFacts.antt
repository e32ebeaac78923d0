-- Datetimes of a day that was printed.
use Rattle.std.proofs.Common.{◌≡◌, ◌≤◌, ◌+◌, ◌/◌, ◌%◌, ◌++◌, ◌∷◌, ◌∙◌, ℕ, List, [], length, length-append, drop, take, refl, sym, ap, arith}
use Rattle.std.proofs.Math.Seq.{drop-append_seam, take-append_seam}
use Rattle.std.specs.Prelude.{ℤ, pos, negsuc, unsigned_abs, option_map, Some}
use Rattle.std.proofs.lemmas.Int.{ints}
use Rattle.csv_io.specs.Days.{time_text}
use Rattle.kql_cells.specs.Values.{IsMoment}
use Rattle.kql_ticks.proofs.BackLemmas.{moment_back}
use Rattle.kql_ticks.proofs.TextLemmas.{digits-seven, digits-two}
use Rattle.kql_ticks.specs.Days.{HasDate}
use Rattle.kql_ticks.specs.Forms.{moment_in}
use Rattle.kql_ticks.specs.Periods.{day_at}
use Rattle.kql_ticks.specs.Texts.{clock_text, date_text, digits, moment_text}

-- a date, and what stands behind it
pub date-and-time : (t : ℕ) → moment_text t ≡ date_text (day_at t) ++ time_text t
unfolding moment_text date_text clock_text digits
date-and-time t = refl

-- the bytes of a time of day
pub time-spelled : (t : ℕ) → time_text t
    ≡ 84 ∷ (48 + t % 864000000000 / 36000000000 / 10 % 10) ∷ (48 + t % 864000000000 / 36000000000 % 10) ∷ 58
    ∷ (48 + t % 864000000000 % 36000000000 / 600000000 / 10 % 10) ∷ (48 + t % 864000000000 % 36000000000 / 600000000 % 10) ∷ 58
    ∷ (48 + t % 864000000000 % 600000000 / 10000000 / 10 % 10) ∷ (48 + t % 864000000000 % 600000000 / 10000000 % 10) ∷ 46
    ∷ (48 + t % 10000000 / 1000000 % 10) ∷ (48 + t % 10000000 / 100000 % 10) ∷ (48 + t % 10000000 / 10000 % 10) ∷ (48 + t % 10000000 / 1000 % 10)
    ∷ (48 + t % 10000000 / 100 % 10) ∷ (48 + t % 10000000 / 10 % 10) ∷ (48 + t % 10000000 % 10) ∷ 90 ∷ []
unfolding clock_text
time-spelled t =
    let c = t % 864000000000 in
    rw (digits-two (c / 36000000000), digits-two (c % 36000000000 / 600000000), digits-two (c % 600000000 / 10000000), digits-seven (t % 10000000)) refl

pub date-size : (n : ℕ) → length (date_text n) ≡ 10
unfolding date_text digits
date-size n = refl

-- a datetime begins with its date
pub moment-size : (t : ℕ) → 10 ≤ length (moment_text t)
moment-size t = omega (arith, ap length (date-and-time t), length-append (date_text (day_at t)) (time_text t), date-size (day_at t))

pub date-kept : (old new : List ℕ) (t : ℕ) → new ≡ old ++ moment_text t → take 10 (drop (length old) new) ≡ date_text (day_at t)
date-kept old new t e =
    let date = date_text (day_at t) in
    let behind : drop (length old) new ≡ moment_text t = ap (λ l. drop (length old) l) e ∙ drop-append_seam old (moment_text t) in
    let front : take (length date) (date ++ time_text t) ≡ date = take-append_seam date (time_text t) in
    ap (λ l. take 10 l) (behind ∙ date-and-time t) ∙ ap (λ n. take n (date ++ time_text t)) (sym (date-size (day_at t))) ∙ front

pub long-enough : (old new : List ℕ) (t : ℕ) → new ≡ old ++ moment_text t → length old + 10 ≤ length new
long-enough old new t e = omega (arith, ap length e, length-append old (moment_text t), moment-size t)

-- a datetime of a day that has a date reads back
pub moment-again : (x : ℤ) → IsMoment x → HasDate (day_at (unsigned_abs x)) → option_map pos (moment_in (moment_text (unsigned_abs x))) ≡ Some x
moment-again (pos n) m date = rw (moment_back n (omega (arith, ints, m.1)) date) refl
moment-again (negsuc n) m date = absurd (omega (arith, ints, m.0))
