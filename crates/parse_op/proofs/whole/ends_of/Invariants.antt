use Rattle.std.proofs.Common.{◌≡◌, ◌++◌, length}
use Rattle.parse_op.specs.Search.{ends_in}
use Rattle.parse_op.proofs.whole.ends_of.Given as goal

-- the ends so far, and those that are left
abbrev pub invariant-ends : goal.invariant-ends
invariant-ends l = l.ends ++ ends_in l.left ≡ ends_in l.fn.slots

abbrev pub decreases-ends : goal.decreases-ends
decreases-ends l = length l.left
