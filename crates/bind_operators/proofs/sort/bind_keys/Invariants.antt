use Rattle.std.proofs.Common.{take}
use Rattle.bind_expr.specs.Outcome.{Answers}
use Rattle.bind_operators.specs.Faults.{each_bound}
use Rattle.bind_operators.specs.Sort.{key_bound}
use Rattle.bind_operators.proofs.sort.bind_keys.Given as goal

abbrev pub invariant-each : goal.invariant-each
invariant-each l = Answers l.bound (each_bound (key_bound l.scope) (take l.k-index l.keys))
