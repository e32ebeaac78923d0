use Rattle.std.proofs.Common.{◌≡◌, length}
use Rattle.live_run.specs.Runs.{IsReading}
use Rattle.live_run.specs.Sights.{HasSeen}
use Rattle.live_run.proofs.watch.look_often.Given as goal

abbrev pub invariant-loop : goal.invariant-loop
invariant-loop g l = record {
  reading : IsReading (g.Q.Question.stands l.query g.B.Script.opening) l.reader;
  seen : HasSeen (g.Q.Question.answer l.query) g.B.Script.opening g.B.Script.batches l.fn.reader.least l.seen l.reader.least;
  count : length l.seen ≡ l.counter;
}
