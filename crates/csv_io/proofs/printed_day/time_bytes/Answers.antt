use Rattle.std.proofs.Common.{sym}
use Rattle.csv_io.proofs.PrintedDayFacts.{time-spelled}
use Rattle.csv_io.proofs.printed_day.time_bytes.Goals as goal

pub returns : goal.returns
returns c =
    rw (
      c.digit.ensures,
      c.digit-2.ensures,
      c.digit-3.ensures,
      c.digit-4.ensures,
      c.digit-5.ensures,
      c.digit-6.ensures,
      c.digit-7.ensures,
      c.digit-8.ensures,
      c.digit-9.ensures,
      c.digit-10.ensures,
      c.digit-11.ensures,
      c.digit-12.ensures,
      c.digit-13.ensures,
    ) (sym (time-spelled c.args.ticks))
