use Rattle.std.proofs.Common.{◌≡◌, take}
use Rattle.pattern_lift.proofs.plans.copy_ops.Given as goal

abbrev pub invariant-loop-op : goal.invariant-loop-op
invariant-loop-op l = l.all ≡ take l.op-index l.ops
