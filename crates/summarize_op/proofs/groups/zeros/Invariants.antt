use Rattle.std.proofs.Common.{◌≡◌}
use Rattle.summarize_op.specs.Groups.{zeros}
use Rattle.summarize_op.proofs.groups.zeros.Given as goal

abbrev pub invariant-loop-i : goal.invariant-loop-i
invariant-loop-i l = l.numbers ≡ zeros l.i
