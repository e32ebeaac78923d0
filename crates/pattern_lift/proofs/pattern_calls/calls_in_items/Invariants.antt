use Rattle.std.proofs.Common.{◌≡◌, take}
use Rattle.pattern_lift.specs.Calls.{calls_in_items}
use Rattle.pattern_lift.proofs.pattern_calls.calls_in_items.Given as goal

abbrev pub invariant-loop-item : goal.invariant-loop-item
invariant-loop-item l = l.all ≡ calls_in_items (take l.item-index l.items)
