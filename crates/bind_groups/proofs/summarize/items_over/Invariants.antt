use Rattle.std.proofs.Common.{take}
use Rattle.bind_expr.specs.Outcome.{Answers}
use Rattle.bind_operators.specs.Items.{items_from}
use Rattle.bind_groups.specs.Summarize.{group_item}
use Rattle.bind_groups.proofs.summarize.items_over.Given as goal

abbrev pub invariant-each : goal.invariant-each
invariant-each l = Answers l.done (items_from (group_item l.operator l.scope) 1 (take l.item-index l.items))
