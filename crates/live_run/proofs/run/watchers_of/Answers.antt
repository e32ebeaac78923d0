use Rattle.std.proofs.Common.{Some, arith}
use Rattle.std.proofs.lemmas.List.Elements.{All-pop}
use Rattle.live_run.specs.Runs.{IsFresh}
use Rattle.live_run.proofs.RunLaws.{one_waiting}
use Rattle.live_run.proofs.run.watchers_of.Goals as goal

pub readers-preserved : goal.readers-preserved
readers-preserved g c = record {
  fresh = λ first all.
      let before = c.readers.invariant.fresh first all in
      let each = All-pop (IsFresh first) c.readers.readers.items c.pop.new.self.items (Some c.in-Some.reader) c.in-Some.ensures.items before.0 in
      (each.0, one_waiting first c.readers.watchers.items c.push.new.self.items _ c.in_ok-push.ensures.items before.1 each.1);
  few = omega (arith, c.in-Some.ensures.len, c.readers.invariant.few);
  count = omega (arith, c.in-Some.ensures.len, c.in_ok-push.ensures.len, c.readers.invariant.count);
}
