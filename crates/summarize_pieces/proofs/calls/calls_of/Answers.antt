use Rattle.summarize_pieces.proofs.CallSteps.{items-more}
use Rattle.summarize_pieces.proofs.calls.calls_of.Goals as goal

pub items-preserved : goal.items-preserved
items-preserved c = items-more c.args.items.now c.items.item-index c.item-item.result c.items.calls.items c.push_item.new.calls.items c.items-test.true c.item-item.is c.items.invariant c.in_ok-push_item.ensures.calls
