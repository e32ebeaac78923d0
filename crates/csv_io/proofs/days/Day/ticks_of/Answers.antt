use Rattle.csv_io.proofs.DayFacts.{ticks-known}
use Rattle.csv_io.proofs.days.Day.ticks_of.Goals as goal

pub returns : goal.returns
returns c =
    ticks-known c.args.text.now c.self.inside.date c.self.inside.start c.in_ok-start.start c.in_ok-time.time c.eq-is_same.result c.requires c.in_ok-start.was c.self.invariant
    (rw c.as_slice.ensures at c.eq-is_same.ensures) c.if-not-is_same.false c.in_ok-time.ensures.value c.in_ok-time.ensures.bound
