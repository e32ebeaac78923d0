use Rattle.std.proofs.Common.{◌≡◌, ◌-◌, length}
use Rattle.worker_board.specs.Views.{IsOf, IsDone}
use Rattle.worker_board.specs.Results.{results_of}
use Rattle.worker_board.proofs.worker.work_on.Given as goal

abbrev pub invariant-loop : goal.invariant-loop
invariant-loop g l = record {
  of_board : IsOf l.board l.desk.seat;
  pieces : l.board.size.pieces ≡ g.W.Work.count l.work;
  one_number : length l.desk.seat.known.numbers ≡ 1;
  not_done : IsDone l.desk.seat → ⊥;
  so_far : l.desk.results.items ≡ results_of (g.W.Work.answer l.work) l.desk.seat.known.claims;
}

abbrev pub decreases-loop : goal.decreases-loop
decreases-loop g l = l.board.size.pieces - length l.desk.seat.known.claims
