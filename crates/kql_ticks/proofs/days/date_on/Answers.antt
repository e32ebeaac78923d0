use Rattle.std.proofs.Common.{◌≡◌, ℕ, pos, sym, arith}
use Rattle.jiff_core.proofs.CalendarLemmas.{days_from_civil-day_count}
use Rattle.jiff_core.proofs.DateLemmas.{civil}
use Rattle.jiff_core.proofs.SignedLemmas.{signed_arith}
use Rattle.kql_ticks.specs.Days.{IsDateOn}
use Rattle.kql_ticks.proofs.DayLaws.{date_on_day, year_on_is, month_on_is, day_on_is}
use Rattle.kql_ticks.proofs.days.date_on.Goals as goal

found : (c : goal.After-from_days_since_min) → (k : ℕ) × (c.from_days_since_min.result.year ≡ pos k) × IsDateOn c.args.day k c.from_days_since_min.result.month c.from_days_since_min.result.day
found c =
    let d = c.from_days_since_min.result in
    date_on_day c.args.day d.year d.month d.day (civil d)
    (omega (arith, signed_arith, days_from_civil-day_count d.year d.month d.day, c.from_days_since_min.ensures))

pub returns-clause-year : goal.returns-clause-year
returns-clause-year c = let f = found c in rw (year_on_is _ _ _ _ f.2) f.1

pub returns-clause-month : goal.returns-clause-month
returns-clause-month c = let f = found c in sym (month_on_is _ _ _ _ f.2)

pub returns-clause-day : goal.returns-clause-day
returns-clause-day c = let f = found c in sym (day_on_is _ _ _ _ f.2)

pub returns-clause-date : goal.returns-clause-date
returns-clause-date c =
    let f = found c in
    rw (year_on_is _ _ _ _ f.2, month_on_is _ _ _ _ f.2, day_on_is _ _ _ _ f.2) f.2
