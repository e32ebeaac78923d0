use Rattle.std.proofs.Common.{rules}
use Rattle.table_ops.proofs.ValueFacts.{values-step}
use Rattle.table_ops.proofs.parts.values_of_items.Goals as goal

pub loop-item-preserved : goal.loop-item-preserved
loop-item-preserved c = values-step c.args.items.now c.args.t.now c.loop-item.item-index c.item-item.result c.loop-item.vectors c.push.new.self c.in_ok-vector.vector (search rules) c.item-item.is c.loop-item.invariant c.in_ok-vector.ensures.values c.in_ok-push.ensures.added
