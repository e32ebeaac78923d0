use Rattle.std.proofs.Common.{◌≡◌, ◌+◌, ◌-◌, ap, arith, rules, pos, FitsSigned, w16}
use Rattle.std.proofs.lemmas.Int.{to_z-of_z}
use Rattle.kql_ticks.specs.Days.{date_number, year_on}
use Rattle.kql_ticks.proofs.DayLaws.{year_first, year_next, year_next_bound}
use Rattle.kql_ticks.proofs.PeriodLemmas.{year_last, year_after}
use Rattle.kql_ticks.proofs.periods.next_year.Goals as goal

pub overflow_sub-result : goal.overflow_sub-result
overflow_sub-result c =
    let d = c.date_on-date.ensures in
    let o = rw (d.year, d.month, d.day) at c.day_of_year.ensures.value in
    omega (arith, o, year_first _ _ _ _ d.date)

next : (c : goal.After-days_in_year) → c.args.day + 1 - c.day_of_year.result + c.days_in_year.result ≡ date_number (year_on c.args.day + 1) 1 1
next c =
    let d = c.date_on-date.ensures in
    let o = rw (d.year, d.month, d.day) at c.day_of_year.ensures.value in
    let fits : FitsSigned w16 c.date_on-date.result.year = search rules in
    let l = rw d.year at (simp to_z-of_z at c.days_in_year.ensures) in
    omega (arith, o, l, year_first _ _ _ _ d.date, year_next _ d.date.year)

pub returns-clause-value : goal.returns-clause-value
returns-clause-value c = ap pos (next c)

pub returns-clause-last : goal.returns-clause-last
returns-clause-last c = rw (next c) (year_last c.args.day c.date_on-date.ensures.date)

pub returns-clause-after : goal.returns-clause-after
returns-clause-after c = rw (next c) (year_after c.args.day c.date_on-date.ensures.date)

pub returns-clause-high : goal.returns-clause-high
returns-clause-high c =
    let d = c.date_on-date.ensures in
    omega (arith, next c, year_next _ d.date.year, year_next_bound _ _ _ _ d.date)
