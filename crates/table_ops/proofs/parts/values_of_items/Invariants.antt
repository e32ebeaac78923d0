use Rattle.std.proofs.Common.{◌≡◌, take}
use Rattle.table_ops.specs.Parts.{item_values}
use Rattle.table_ops.proofs.parts.values_of_items.Given as goal

-- the values of the items so far
abbrev pub invariant-loop-item : goal.invariant-loop-item
invariant-loop-item l = l.vectors ≡ item_values (take l.item-index l.items) l.t
