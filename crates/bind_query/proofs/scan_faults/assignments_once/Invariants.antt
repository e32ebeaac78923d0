use Rattle.std.proofs.Common.{◌≡◌, [], length}
use Rattle.bind_operators.specs.Faults.{unless}
use Rattle.bind_query.specs.Scan.{assignment_faults}
use Rattle.bind_query.proofs.scan_faults.assignments_once.Given as goal

abbrev pub invariant-each : goal.invariant-each
invariant-each l = unless {X = Unit {0}} (assignment_faults l.declared l.done l.left) tt ≡ unless {X = Unit {0}} (assignment_faults l.declared [] l.fn.sets) tt

abbrev pub decreases-each : goal.decreases-each
decreases-each l = length l.left
