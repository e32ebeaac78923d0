use Rattle.std.proofs.Common.{◌≡◌, take}
use Rattle.pattern_lift.specs.Marks.{most_marks}
use Rattle.pattern_lift.proofs.marks.most_marks.Given as goal

abbrev pub invariant-loop-name : goal.invariant-loop-name
invariant-loop-name l = l.most ≡ most_marks (take l.name-index l.names)
