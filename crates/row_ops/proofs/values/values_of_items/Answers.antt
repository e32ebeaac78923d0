use Rattle.std.proofs.Common.{rules}
use Rattle.row_ops.proofs.ValueSteps.{items-step}
use Rattle.row_ops.proofs.values.values_of_items.Goals as goal

-- src/values.rt:24:5
pub items-preserved : goal.items-preserved
items-preserved c = items-step c.args.items.now c.args.t.now c.items.item-index c.item-item.result c.items.vectors.items c.push.new.self.items c.in_ok-vector.vector (search rules) c.item-item.is c.items.invariant c.in_ok-vector.ensures.values c.in_ok-push.ensures.items
