use Rattle.std.proofs.Common.{◌≡◌, [], take}
use Rattle.window_ops.specs.Calls.{calls_of_items}
use Rattle.phase_windows.proofs.items.columns_in_front.Given as goal

-- no call stands in the items so far
abbrev pub invariant-items : goal.invariant-items
invariant-items l = record {
  count : l.count ≡ l.item-index;
  calls : calls_of_items (take l.item-index l.items) ≡ [];
}
