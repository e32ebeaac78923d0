use Rattle.std.proofs.Common.{◌≡◌, [], replicate}
use Rattle.board_core.specs.Lists.{contents, HaveRoom}
use Rattle.board_core.proofs.lists.empty_lists.Given as goal

abbrev pub invariant-loop-i : goal.invariant-loop-i
invariant-loop-i l =
    record {
      empty : contents l.lists.items ≡ replicate l._i [];
      roomy : HaveRoom l.room l.lists.items;
    }
