use Rattle.window_ops.proofs.ItemSteps.{carries-next, item-ready, items-step}
use Rattle.window_ops.proofs.items.values_of_items.Goals as goal

pub column-requires : goal.column-requires
column-requires c = record { ready = item-ready c.args.items.now c.args.t.now c.args.from c.args.count c.items.item-index c.item-item.result c.items.rest.now c.requires.fits c.requires.range c.items-test.true c.item-item.is c.items.invariant.carries }

pub items-preserved : goal.items-preserved
items-preserved c = record {
  made = items-step c.args.items.now c.args.t.now c.args.from c.args.count c.items.item-index c.item-item.result c.items.vectors.items c.push.new.self.items c.in_ok-vector.vector c.items-test.true c.item-item.is c.items.invariant.made c.in_ok-vector.ensures.values c.in_ok-push.ensures.items;
  carries = carries-next c.args.items.now c.args.t.now c.args.from c.items.item-index c.item-item.result c.items.rest.now c.carries_behind-next.result.now c.items-test.true c.item-item.is c.items.invariant.carries c.carries_behind-next.ensures;
}
