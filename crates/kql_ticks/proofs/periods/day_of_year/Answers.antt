use Rattle.std.proofs.Common.{arith}
use Rattle.kql_ticks.proofs.DayLaws.{year_first}
use Rattle.kql_ticks.proofs.periods.day_of_year.Goals as goal

pub returns-clause-value : goal.returns-clause-value
returns-clause-value c =
    let d = c.date_on.ensures in
    let o = rw (d.year, d.month, d.day) at c.day_of_year.ensures.value in
    omega (arith, o, year_first _ _ _ _ d.date)
