use Rattle.std.proofs.Common.{◌≡◌, ◌++◌, length, map}
use Rattle.pattern_lift.specs.Lifted.{inside}
use Rattle.pattern_lift.specs.Prefixes.{prefix}
use Rattle.pattern_lift.proofs.plans.prefix_inside.Given as goal

abbrev pub invariant-ops : goal.invariant-ops
invariant-ops l = map (inside l.fn.marks) (prefix l.fn.ops) ≡ l.all ++ map (inside l.fn.marks) (prefix l.left)

abbrev pub decreases-ops : goal.decreases-ops
decreases-ops l = length l.left
