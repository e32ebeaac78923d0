use Rattle.std.proofs.Common.{◌≡◌, length}
use Rattle.pattern_lift.specs.Prefixes.{behind}
use Rattle.pattern_lift.proofs.prefixes.behind.Given as goal

abbrev pub invariant-ops : goal.invariant-ops
invariant-ops l = behind l.left ≡ behind l.fn.ops

abbrev pub decreases-ops : goal.decreases-ops
decreases-ops l = length l.left
