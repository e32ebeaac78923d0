use Rattle.std.proofs.Common.{◌≡◌, take}
use Rattle.pattern_lift.specs.Lifted.{lifted_items}
use Rattle.pattern_lift.proofs.expressions.lifted_items.Given as goal

abbrev pub invariant-loop-item : goal.invariant-loop-item
invariant-loop-item l = l.all ≡ lifted_items l.marks (take l.item-index l.items)
