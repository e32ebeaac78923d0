use Rattle.std.proofs.Common.{◌≡◌, map, take}
use Rattle.series_op.specs.Summary.{group_item}
use Rattle.series_op.proofs.plan.group_items.Given as goal

-- the items so far
abbrev pub invariant-items : goal.invariant-items
invariant-items l = l.made ≡ map group_item (take l.item-index l.items)
