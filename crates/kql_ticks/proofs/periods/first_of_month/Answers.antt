use Rattle.std.proofs.Common.{◌≡◌, ℕ, ◌+◌, ◌-◌, ap, arith, pos}
use Rattle.kql_ticks.specs.Days.{HasDate, year_on, month_on, day_on}
use Rattle.kql_ticks.specs.Periods.{first_of_month, month_number}
use Rattle.kql_ticks.proofs.DayLaws.{month_first, first_of_month-is}
use Rattle.kql_ticks.proofs.PeriodLemmas.{month_same, month_before}
use Rattle.kql_ticks.proofs.periods.first_of_month.Goals as goal

pub overflow_sub-result : goal.overflow_sub-result
overflow_sub-result c =
    let d = c.date_on.ensures in
    omega (arith, d.day, month_first _ _ _ _ d.date)

first : (n d : ℕ) → HasDate n → d ≡ day_on n → n + 1 - d ≡ first_of_month (month_number n)
first n d on day =
    let m = on.civil.1 in
    omega (arith, month_first _ _ _ _ on, first_of_month-is (year_on n) (month_on n) m.0 m.1)

pub returns-clause-value : goal.returns-clause-value
returns-clause-value c = ap pos (first _ _ c.date_on.ensures.date c.date_on.ensures.day)

pub returns-clause-same : goal.returns-clause-same
returns-clause-same c =
    rw (first _ _ c.date_on.ensures.date c.date_on.ensures.day) (month_same c.args.day c.date_on.ensures.date)

pub returns-clause-before : goal.returns-clause-before
returns-clause-before c =
    rw (first _ _ c.date_on.ensures.date c.date_on.ensures.day) (month_before c.args.day c.date_on.ensures.date)
