use Rattle.std.proofs.Common.{◌≡◌, [], length}
use Rattle.bind_operators.specs.Faults.{unless}
use Rattle.bind_operators.specs.Project.{rename_faults}
use Rattle.bind_operators.proofs.project_rename.first_twice.Given as goal

abbrev pub invariant-each : goal.invariant-each
invariant-each l = unless {X = Unit {0}} (rename_faults l.standing l.renamed l.left) tt ≡ unless {X = Unit {0}} (rename_faults l.fn.kept [] l.fn.renames) tt

abbrev pub decreases-each : goal.decreases-each
decreases-each l = length l.left
