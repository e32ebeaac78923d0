use Rattle.std.proofs.Common.{◌≡◌, length}
use Rattle.std.specs.List.{list_all}
use Rattle.pattern_laws.specs.Liftable.{has_no_calls}
use Rattle.pattern_places.proofs.operators.have_no_calls.Given as goal

abbrev pub invariant-ops : goal.invariant-ops
invariant-ops l = list_all has_no_calls l.left ≡ list_all has_no_calls l.fn.ops

abbrev pub decreases-ops : goal.decreases-ops
decreases-ops l = length l.left
