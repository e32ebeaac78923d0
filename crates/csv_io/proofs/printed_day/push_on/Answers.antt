use Rattle.std.proofs.Common.{append_assoc}
use Rattle.csv_io.specs.Days.{time_text}
use Rattle.csv_io.proofs.PrintedDayFacts.{date-and-time}
use Rattle.kql_ticks.specs.Periods.{day_at}
use Rattle.kql_ticks.specs.Texts.{date_text}
use Rattle.csv_io.proofs.printed_day.push_on.Goals as goal

pub returns : goal.returns
returns c =
    let t = c.args.ticks in
    rw (
      c.in_ok-extend_from_slice-2.ensures.items,
      c.in_ok-extend_from_slice.ensures.items,
      c.as_slice-2.ensures,
      c.as_slice.ensures,
      c.time_bytes.ensures,
      c.requires,
      date-and-time t,
    ) (append_assoc c.args.out.now.items (date_text (day_at t)) (time_text t))
