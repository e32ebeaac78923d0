use Rattle.summarize_op.proofs.OneGroup.{zeros-more}
use Rattle.summarize_op.proofs.groups.zeros.Goals as goal

pub loop-i-preserved : goal.loop-i-preserved
loop-i-preserved c = zeros-more c.loop-i.i c.loop-i.numbers c.push.new.self c.loop-i.invariant c.in_ok-push.ensures.added
