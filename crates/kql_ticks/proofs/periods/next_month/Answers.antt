use Rattle.std.proofs.Common.{◌≡◌, ◌+◌, ◌-◌, ap, arith, rules, pos, FitsSigned, w16}
use Rattle.std.proofs.lemmas.Int.{to_z-of_z}
use Rattle.kql_ticks.specs.Days.{year_on, month_on}
use Rattle.kql_ticks.specs.Periods.{first_of_month, month_number}
use Rattle.kql_ticks.proofs.DayLaws.{month_first, month_next, month_next_bound}
use Rattle.kql_ticks.proofs.PeriodLemmas.{month_last, month_after}
use Rattle.kql_ticks.proofs.periods.next_month.Goals as goal

pub overflow_sub-result : goal.overflow_sub-result
overflow_sub-result c =
    let d = c.date_on-date.ensures in
    omega (arith, d.day, month_first _ _ _ _ d.date)

next : (c : goal.After-days_in_month) → c.args.day + 1 - c.date_on-date.result.day + c.days_in_month.result ≡ first_of_month (month_number c.args.day + 1)
next c =
    let d = c.date_on-date.ensures in
    let fits : FitsSigned w16 c.date_on-date.result.year = search rules in
    let l = rw (d.year, d.month) at (simp to_z-of_z at c.days_in_month.ensures.value) in
    let m = d.date.civil.1 in
    omega (arith, d.day, l, month_first _ _ _ _ d.date, month_next (year_on c.args.day) (month_on c.args.day) d.date.year m.0 m.1)

pub returns-clause-value : goal.returns-clause-value
returns-clause-value c = ap pos (next c)

pub returns-clause-last : goal.returns-clause-last
returns-clause-last c = rw (next c) (month_last c.args.day c.date_on-date.ensures.date)

pub returns-clause-after : goal.returns-clause-after
returns-clause-after c = rw (next c) (month_after c.args.day c.date_on-date.ensures.date)

pub returns-clause-high : goal.returns-clause-high
returns-clause-high c =
    let d = c.date_on-date.ensures in
    let m = d.date.civil.1 in
    omega (arith, next c, month_next (year_on c.args.day) (month_on c.args.day) d.date.year m.0 m.1, month_next_bound _ _ _ _ d.date)
