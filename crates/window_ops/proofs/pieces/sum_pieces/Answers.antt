use Rattle.window_ops.proofs.SumSteps.{items-turn}
use Rattle.window_ops.proofs.pieces.sum_pieces.Goals as goal

pub items-preserved : goal.items-preserved
items-preserved c = items-turn c.args.items.now c.items.item-index c.item-item.result c.args.t.now c.args.from c.args.to c.items.carries c.push_carries.new.carries c.items-test.true c.item-item.is c.items.invariant c.in_ok-push_carries.ensures.added
