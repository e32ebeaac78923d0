use Rattle.std.proofs.Common.{take}
use Rattle.bind_expr.specs.Outcome.{Answers}
use Rattle.bind_query.specs.Bound.{lets_bound}
use Rattle.bind_query.proofs.lets.bind_lets.Given as goal

abbrev pub invariant-each : goal.invariant-each
invariant-each l = Answers l.done (lets_bound (take l.l-index l.lets) l.fn.known)
