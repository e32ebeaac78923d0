use Rattle.std.proofs.Common.{◌<◌, length, arith}
use Rattle.worker_board.proofs.RuleKept.{looks_for_stop}
use Rattle.worker_board.proofs.Sits.{at_hand}
use Rattle.worker_board.proofs.board.Board.is_stopped.Goals as goal

pub load-found-requires : goal.load-found-requires
load-found-requires c =
    let some_number : 0 < length c.seat.inside.place.me.0.numbers = omega (arith, c.seat.invariant.held, c.seat.invariant.some_held) in (
      (at_hand _ _ _ _ c.self.view_is c.seat.view_is c.requires.of_board).table,
      omega (arith, c.self.invariant.words),
      looks_for_stop c.self.inside.table.shared.key _ _ _ some_number,
    )
