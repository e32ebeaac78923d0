use Rattle.std.proofs.Common.{◌≡◌, ◌+◌, All, length, vec_len}
use Rattle.worker_board.specs.Results.{Leaves, LeavesAlone}
use Rattle.worker_board.proofs.joined.gather.Given as goal

abbrev pub invariant-loop-next : goal.invariant-loop-next
invariant-loop-next g l = record {
  left : Leaves (g.W.Work.answer l.work) l.board l.all;
  numbers : length l.all.seat.known.numbers + vec_len l.desks ≡ vec_len l.fn.desks;
  others : All (LeavesAlone (g.W.Work.answer l.work) l.board) l.desks.items;
}

abbrev pub decreases-loop-next : goal.decreases-loop-next
decreases-loop-next g l = vec_len l.desks
