use Rattle.std.proofs.Common.{◌≡◌, length}
use Rattle.pattern_lift.specs.Prefixes.{names_behind, prefix}
use Rattle.pattern_lift.proofs.prefixes.names_behind.Given as goal

abbrev pub invariant-ops : goal.invariant-ops
invariant-ops l = names_behind l.fn.names (prefix l.fn.ops) ≡ names_behind l.before (prefix l.left)

abbrev pub decreases-ops : goal.decreases-ops
decreases-ops l = length l.left
