use Rattle.std.proofs.Common.{◌≡◌, ◌-◌, ◌≤◌, unsigned_abs, arith}
use Rattle.jiff_core.proofs.CalendarLemmas.{days_from_civil-day_count}
use Rattle.jiff_core.proofs.DateLemmas.{civil}
use Rattle.jiff_core.proofs.SignedLemmas.{signed_arith}
use Rattle.kql_ticks.specs.Days.{date_number}
use Rattle.kql_ticks.proofs.DayLaws.{day_number_is}
use Rattle.kql_ticks.proofs.days.day_number.Goals as goal

counted : (c : goal.After-days_since_min) → (3652425 ≤ c.days_since_min.result) × (c.days_since_min.result - 3652425 ≡ date_number (unsigned_abs c.args.date.year) c.args.date.month c.args.date.day)
counted c =
    let d = c.args.date in
    let h = civil d in
    day_number_is d.year d.month d.day c.days_since_min.result c.requires h.2.0
    (omega (arith, signed_arith, days_from_civil-day_count d.year d.month d.day, c.days_since_min.ensures.value))

pub overflow_sub-result : goal.overflow_sub-result
overflow_sub-result c = let h = counted c in h.0

pub returns-clause-value : goal.returns-clause-value
returns-clause-value c = let h = counted c in h.1
