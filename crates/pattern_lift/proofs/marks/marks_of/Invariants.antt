use Rattle.std.proofs.Common.{◌≡◌, ◌+◌, length}
use Rattle.pattern_lift.specs.Marks.{marks_of}
use Rattle.pattern_lift.proofs.marks.marks_of.Given as goal

abbrev pub invariant-bytes : goal.invariant-bytes
invariant-bytes l = (l.count + length l.left ≡ length l.fn.name) × (marks_of l.fn.name ≡ l.count + marks_of l.left)

abbrev pub decreases-bytes : goal.decreases-bytes
decreases-bytes l = length l.left
