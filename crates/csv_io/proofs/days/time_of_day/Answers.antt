use Rattle.std.proofs.Common.{◌∙◌, sym}
use Rattle.csv_io.proofs.DayFacts.{time-at}
use Rattle.csv_io.proofs.days.time_of_day.Goals as goal

pub returns-clause-value : goal.returns-clause-value
returns-clause-value c =
    time-at c.args.t.now c.in_ok-hours.hours c.in_ok-minutes.minutes c.in_ok-seconds.seconds c.in_ok-first.first c.in_ok-second.second c.in_ok-third.third c.in_ok-last.last
    c.requires (sym c.has_marks.ensures ∙ c.if-not-has_marks.false) c.in_ok-hours.ensures c.in_ok-minutes.ensures c.in_ok-seconds.ensures c.in_ok-first.ensures
    c.in_ok-second.ensures c.in_ok-third.ensures c.in_ok-last.ensures c.if-hours-ge24.false c.if-minutes-ge60.false c.if-seconds-ge60.false
