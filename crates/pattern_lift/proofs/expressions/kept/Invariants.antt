use Rattle.std.proofs.Common.{◌≡◌, take}
use Rattle.pattern_lift.specs.Lifted.{kept}
use Rattle.pattern_lift.proofs.expressions.kept.Given as goal

abbrev pub invariant-loop-name : goal.invariant-loop-name
invariant-loop-name l = l.all ≡ kept (take l.name-index l.names)
