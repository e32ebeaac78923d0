use Rattle.std.proofs.Common.{◌≡◌, ◌+◌, All, length, vec_len}
use Rattle.worker_board.specs.Results.{IsReady, IsWaiting}
use Rattle.worker_board.proofs.phase.desks_of.Given as goal

abbrev pub invariant-loop-seat : goal.invariant-loop-seat
invariant-loop-seat g l = record {
  left : All (IsReady l.board) l.seats.items;
  waiting : All (IsWaiting l.board) l.desks.items;
  count : vec_len l.desks + vec_len l.seats ≡ length l.fn.seats;
}

abbrev pub decreases-loop-seat : goal.decreases-loop-seat
decreases-loop-seat g l = vec_len l.seats
