use Rattle.std.proofs.Common.{◌≡◌, length}
use Rattle.pattern_lift.specs.Prefixes.{prefix}
use Rattle.pattern_laws.specs.Liftable.{prefix_is_liftable}
use Rattle.pattern_places.proofs.operators.prefix_is_liftable.Given as goal

abbrev pub invariant-ops : goal.invariant-ops
invariant-ops l = prefix_is_liftable l.fn.marks l.fn.lent (prefix l.fn.ops) ≡ prefix_is_liftable l.marks l.own (prefix l.left)

abbrev pub decreases-ops : goal.decreases-ops
decreases-ops l = length l.left
