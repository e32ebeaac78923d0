use Rattle.std.proofs.Common.{◌≡◌, ◌+◌, take}
use Rattle.std.specs.List.{sum_by}
use Rattle.json_losses.specs.Losses.{held}
use Rattle.json_losses.specs.Views.{entry_losses, part_losses}
use Rattle.json_losses.proofs.json.+value_losses.Given as goal

abbrev pub invariant-item_losses-loop-item : goal.invariant-item_losses-loop-item
invariant-item_losses-loop-item l = l.count ≡ held (sum_by part_losses (take l.item-index l.item-items))

abbrev pub invariant-member_losses-loop-member : goal.invariant-member_losses-loop-member
invariant-member_losses-loop-member l = record {
  fits : l.count ≡ held l.count;
  left : held (l.count + sum_by entry_losses l.member-iterator) ≡ held (sum_by entry_losses l.members.entries);
}
