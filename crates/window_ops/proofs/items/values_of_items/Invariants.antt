use Rattle.std.proofs.Common.{◌≡◌, drop, take}
use Rattle.window_ops.specs.Calls.{AreBefore, calls_of_items}
use Rattle.window_ops.specs.Columns.{columns_of_items}
use Rattle.window_ops.proofs.items.values_of_items.Given as goal

-- the values of the items so far, and the carries of the calls in the others
abbrev pub invariant-items : goal.invariant-items
invariant-items l = record {
  made : l.vectors.items ≡ columns_of_items (take l.item-index l.items) l.t l.from l.count;
  carries : AreBefore (calls_of_items (drop l.item-index l.items)) l.t l.from l.rest;
}
