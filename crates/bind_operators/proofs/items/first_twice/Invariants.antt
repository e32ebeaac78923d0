use Rattle.std.proofs.Common.{◌≡◌, length}
use Rattle.bind_operators.specs.Faults.{unless}
use Rattle.bind_operators.specs.Items.{names_of_items, twice}
use Rattle.bind_operators.proofs.items.first_twice.Given as goal

abbrev pub invariant-each : goal.invariant-each
invariant-each l = unless {X = Unit {0}} (twice l.taken l.places (names_of_items l.items)) tt ≡ unless {X = Unit {0}} (twice l.fn.before l.fn.places (names_of_items l.fn.items)) tt

abbrev pub decreases-each : goal.decreases-each
decreases-each l = length l.places
