use Rattle.std.proofs.Common.{rules}
use Rattle.summarize_op.proofs.ItemSteps.{items-start, items-step}
use Rattle.summarize_op.proofs.items.columns_of_items.Goals as goal

pub items-init : goal.items-init
items-init c = items-start c.args.items.now c.args.t.now c.args.numbers.now c.args.count c.new-vectors.result.items (search rules)

pub items-preserved : goal.items-preserved
items-preserved c = items-step c.args.items.now c.args.t.now c.args.numbers.now c.args.count c.items.item-index c.item-item.result c.items.vectors.items c.in_ok-more.more.items c.append.new.self.items (search rules) c.item-item.is c.items.invariant c.in_ok-more.ensures.values (search rules)
