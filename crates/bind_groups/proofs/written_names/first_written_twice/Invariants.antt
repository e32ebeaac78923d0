use Rattle.std.proofs.Common.{◌≡◌, length}
use Rattle.bind_operators.specs.Faults.{unless}
use Rattle.bind_operators.specs.Items.{twice}
use Rattle.bind_groups.specs.Names.{singles}
use Rattle.bind_groups.proofs.written_names.first_written_twice.Given as goal

abbrev pub invariant-each : goal.invariant-each
invariant-each l = unless {X = Unit {0}} (twice l.taken l.places (singles l.texts)) tt ≡ unless {X = Unit {0}} (twice l.fn.before l.fn.places (singles l.fn.texts)) tt

abbrev pub decreases-each : goal.decreases-each
decreases-each l = length l.places
