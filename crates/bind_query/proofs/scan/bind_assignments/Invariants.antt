use Rattle.std.proofs.Common.{take}
use Rattle.bind_expr.specs.Outcome.{Answers}
use Rattle.bind_operators.specs.Faults.{each_bound}
use Rattle.bind_query.specs.Scan.{assignment_bound}
use Rattle.bind_query.proofs.scan.bind_assignments.Given as goal

abbrev pub invariant-each : goal.invariant-each
invariant-each l = Answers l.bound (each_bound (assignment_bound l.scope l.declared) (take l.a-index l.sets))
