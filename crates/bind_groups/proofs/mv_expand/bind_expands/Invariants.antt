use Rattle.std.proofs.Common.{take}
use Rattle.bind_expr.specs.Outcome.{Answers}
use Rattle.bind_groups.specs.MvExpand.{expands_bound}
use Rattle.bind_groups.proofs.mv_expand.bind_expands.Given as goal

abbrev pub invariant-each : goal.invariant-each
invariant-each l = Answers l.done (expands_bound l.scope (take l.x-index l.items))
