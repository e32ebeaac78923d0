use Rattle.std.proofs.Common.{◌≡◌, length}
use Rattle.kql_syntax.specs.Classes.{holds}
use Rattle.kql_syntax.proofs.class.has.Given as goal

abbrev pub invariant-left : goal.invariant-left
invariant-left l = holds l.left l.wanted ≡ holds l.fn.classes l.wanted

abbrev pub decreases-left : goal.decreases-left
decreases-left l = length l.left
