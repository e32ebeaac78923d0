use Rattle.std.proofs.Common.{◌≡◌, ◌++◌, All, IsSome, Some, map, reverse, vec_len}
use Rattle.worker_board.proofs.slots.contents_of.Given as goal

abbrev pub invariant-loop-slot : goal.invariant-loop-slot
invariant-loop-slot g l = record {
  left : All IsSome l.slots.items;
  taken : l.slots.items ++ reverse (map Some l.values) ≡ l.fn.slots.items;
}

abbrev pub decreases-loop-slot : goal.decreases-loop-slot
decreases-loop-slot g l = vec_len l.slots
