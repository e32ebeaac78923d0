use Rattle.std.proofs.Common.{arith}
use Rattle.live_run.proofs.RunLaws.{one_more, sees_more, still_reading}
use Rattle.live_run.proofs.watch.look_often.Goals as goal

pub loop-preserved : goal.loop-preserved
loop-preserved g c =
    let more = c.in_ok-push.ensures.added in
    let size = one_more c.loop.seen c.push.new.self c.in_ok-sight.sight more in
    record {
      reading = still_reading (g.Q.Question.stands c.args.query.now g.B.Script.opening) c.loop.reader c.look.new.reader c.loop.invariant.reading c.in_ok-sight.ensures.same;
      seen = sees_more (g.Q.Question.answer c.args.query.now) g.B.Script.opening g.B.Script.batches c.args.reader.now.least c.loop.seen c.push.new.self c.loop.reader.least c.look.new.reader.least c.in_ok-sight.sight
          c.loop.invariant.seen more c.in_ok-sight.ensures.sight c.in_ok-sight.ensures.least.0 c.in_ok-sight.ensures.least.1;
      count = omega (arith, size, c.loop.invariant.count);
    }
