use Rattle.std.proofs.Common.{◌≡◌, ◌++◌, take}
use Rattle.plan_push.proofs.walk.then_copies.Given as goal

abbrev pub invariant-loop-op : goal.invariant-loop-op
invariant-loop-op l = l.all ≡ l.fn.made ++ take l.op-index l.rest
