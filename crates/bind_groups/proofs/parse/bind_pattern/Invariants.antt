use Rattle.std.proofs.Common.{take}
use Rattle.bind_expr.specs.Outcome.{Answers}
use Rattle.bind_operators.specs.Faults.{each_bound}
use Rattle.bind_groups.specs.Parse.{pat_bound}
use Rattle.bind_groups.proofs.parse.bind_pattern.Given as goal

abbrev pub invariant-each : goal.invariant-each
invariant-each l = Answers l.bound (each_bound pat_bound (take l.p-index l.pattern))
