use Rattle.std.proofs.Common.{◌≡◌, [], length}
use Rattle.bind_operators.specs.Faults.{unless}
use Rattle.bind_query.specs.Scan.{step_name_faults}
use Rattle.bind_query.proofs.scan_faults.step_names_once.Given as goal

abbrev pub invariant-each : goal.invariant-each
invariant-each l = unless {X = Unit {0}} (step_name_faults l.before l.left) tt ≡ unless {X = Unit {0}} (step_name_faults [] l.fn.s.steps) tt

abbrev pub decreases-each : goal.decreases-each
decreases-each l = length l.left
