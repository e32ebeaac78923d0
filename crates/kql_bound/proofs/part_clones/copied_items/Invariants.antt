use Rattle.std.proofs.Common.{◌≡◌, take}
use Rattle.kql_bound.proofs.part_clones.copied_items.Given as goal

abbrev pub invariant-loop-item : goal.invariant-loop-item
invariant-loop-item g l = l.copies ≡ take l.item-index l.item-items
