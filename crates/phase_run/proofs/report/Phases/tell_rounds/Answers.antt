use Rattle.std.proofs.Common.{refl, true}
use Rattle.phase_run.proofs.ToldSteps.{one-told, one-whole, rounds-next}
use Rattle.phase_run.proofs.report.Phases.tell_rounds.Goals as goal

pub each-preserved : goal.each-preserved
each-preserved c =
    let parts = one-whole c.args.self.now.workers c.in-Some.gathered c.each.left c.pop.new.self c.in-Some.ensures.last c.each.invariant.whole in record {
      whole = parts.0;
      told = rounds-next c.args.self.now c.each.self c.tell.new.self _ c.in-Some.gathered c.each.left c.pop.new.self c.in-Some.ensures.last c.each.invariant.told
          (one-told c.each.self c.tell.new.self _ true refl c.in_ok-tell.ensures.workers c.in_ok-tell.ensures.report);
    }
