use Rattle.std.proofs.Common.{take}
use Rattle.bind_expr.specs.Outcome.{Answers}
use Rattle.bind_operators.specs.Faults.{each_bound}
use Rattle.bind_query.specs.Join.{key_bound}
use Rattle.bind_query.proofs.join.bind_keys.Given as goal

abbrev pub invariant-each : goal.invariant-each
invariant-each l = Answers l.pairs (each_bound (key_bound l.operator l.known l.left l.right) (take l.key-index l.keys))
