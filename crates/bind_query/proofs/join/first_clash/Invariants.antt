use Rattle.std.proofs.Common.{◌≡◌, length}
use Rattle.bind_operators.specs.Faults.{unless}
use Rattle.bind_query.specs.Join.{key_clashes}
use Rattle.bind_query.proofs.join.first_clash.Given as goal

abbrev pub invariant-each : goal.invariant-each
invariant-each l = unless {X = Unit {0}} (key_clashes l.left l.right l.keys l.pairs) tt ≡ unless {X = Unit {0}} (key_clashes l.fn.left l.fn.right l.fn.keys l.fn.pairs) tt

abbrev pub decreases-each : goal.decreases-each
decreases-each l = length l.keys
