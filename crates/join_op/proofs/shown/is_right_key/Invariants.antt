use Rattle.std.proofs.Common.{◌≡◌, length}
use Rattle.join_op.specs.Shown.{is_right_key}
use Rattle.join_op.proofs.shown.is_right_key.Given as goal

abbrev pub invariant-pairs : goal.invariant-pairs
invariant-pairs l = is_right_key l.left l.name ≡ is_right_key l.fn.on l.fn.name

abbrev pub decreases-pairs : goal.decreases-pairs
decreases-pairs l = length l.left
