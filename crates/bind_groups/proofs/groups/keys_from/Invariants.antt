use Rattle.std.proofs.Common.{take}
use Rattle.bind_expr.specs.Outcome.{Answers}
use Rattle.bind_operators.specs.Items.{items_from}
use Rattle.bind_groups.specs.Summarize.{group_key}
use Rattle.bind_groups.proofs.groups.keys_from.Given as goal

abbrev pub invariant-each : goal.invariant-each
invariant-each l = Answers l.done (items_from (group_key l.scope) l.next (take l.key-index l.keys))
