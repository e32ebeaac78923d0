use Rattle.window_ops.proofs.CarrySteps.{join-both}
use Rattle.window_ops.proofs.join.carry.Goals as goal

pub returns : goal.returns
returns c = record {
  joined = c.both_of.ensures.joined;
  both = join-both c.args.a.now c.args.b.now c.both_of.result c.both_of.ensures.joined;
}
