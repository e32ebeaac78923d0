use Rattle.std.proofs.Common.{take}
use Rattle.bind_expr.specs.Outcome.{Answers}
use Rattle.bind_operators.specs.Items.{item_in, items_from}
use Rattle.bind_operators.proofs.items.bind_items.Given as goal

abbrev pub invariant-each : goal.invariant-each
invariant-each l = Answers l.done (items_from (item_in l.scope) 1 (take l.item-index l.items))
