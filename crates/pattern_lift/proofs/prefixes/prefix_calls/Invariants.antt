use Rattle.std.proofs.Common.{◌≡◌, ◌++◌, length}
use Rattle.pattern_lift.specs.Prefixes.{prefix_calls}
use Rattle.pattern_lift.proofs.prefixes.prefix_calls.Given as goal

abbrev pub invariant-ops : goal.invariant-ops
invariant-ops l = prefix_calls l.fn.ops ≡ l.all ++ prefix_calls l.left

abbrev pub decreases-ops : goal.decreases-ops
decreases-ops l = length l.left
