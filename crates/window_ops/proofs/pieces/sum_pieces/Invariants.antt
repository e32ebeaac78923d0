use Rattle.std.proofs.Common.{◌≡◌, take}
use Rattle.window_ops.specs.Calls.{calls_of_items, carries_of}
use Rattle.window_ops.proofs.pieces.sum_pieces.Given as goal

-- the carries of the items so far
abbrev pub invariant-items : goal.invariant-items
invariant-items l = l.carries ≡ carries_of (calls_of_items (take l.item-index l.items)) l.t l.from l.to
