use Rattle.std.proofs.Common.{take}
use Rattle.bind_expr.specs.Outcome.{Answers}
use Rattle.bind_operators.specs.Faults.{each_bound}
use Rattle.bind_query.specs.Operators.{arg_bound, ops_bound}
use Rattle.bind_query.proofs.pipes.+bind.Given as goal

abbrev pub invariant-bind_ops-each : goal.invariant-bind_ops-each
invariant-bind_ops-each l = Answers l.done (ops_bound (take l.op-index l.ops) l.known l.inside l.fn.rows)

abbrev pub invariant-bind_args-each : goal.invariant-bind_args-each
invariant-bind_args-each l = Answers l.plans (each_bound (arg_bound l.known l.inside) (take l.arg-index l.args))
