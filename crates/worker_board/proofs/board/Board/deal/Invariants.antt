use Rattle.std.proofs.Common.{◌≡◌, []}
use Rattle.worker_board.specs.Moves.{from_worker}
use Rattle.worker_board.specs.Views.{seats_of}
use Rattle.worker_board.proofs.board.Board.deal.Given as goal

abbrev pub invariant-loop-w : goal.invariant-loop-w
invariant-loop-w l = record {
  board : l.place.table_id ≡ l.self.id;
  left : l.place.me ≡ (from_worker l.self.size l.w, []);
  dealt : l.seats.items ≡ seats_of l.self l.w;
}
