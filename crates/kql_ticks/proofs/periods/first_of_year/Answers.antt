use Rattle.std.proofs.Common.{◌≡◌, ◌+◌, ◌-◌, ap, arith, pos}
use Rattle.kql_ticks.specs.Days.{date_number, year_on}
use Rattle.kql_ticks.proofs.DayLaws.{year_first}
use Rattle.kql_ticks.proofs.PeriodLemmas.{year_same, year_before}
use Rattle.kql_ticks.proofs.periods.first_of_year.Goals as goal

pub overflow_sub-result : goal.overflow_sub-result
overflow_sub-result c =
    let d = c.date_on.ensures in
    let o = rw (d.year, d.month, d.day) at c.day_of_year.ensures.value in
    omega (arith, o, year_first _ _ _ _ d.date)

first : (c : goal.After-day_of_year) → c.args.day + 1 - c.day_of_year.result ≡ date_number (year_on c.args.day) 1 1
first c =
    let d = c.date_on.ensures in
    let o = rw (d.year, d.month, d.day) at c.day_of_year.ensures.value in
    omega (arith, o, year_first _ _ _ _ d.date)

pub returns-clause-value : goal.returns-clause-value
returns-clause-value c = ap pos (first c)

pub returns-clause-same : goal.returns-clause-same
returns-clause-same c = rw (first c) (year_same c.args.day c.date_on.ensures.date)

pub returns-clause-before : goal.returns-clause-before
returns-clause-before c = rw (first c) (year_before c.args.day c.date_on.ensures.date)
