use Rattle.std.proofs.Common.{◌<◌, length, arith}
use Rattle.worker_board.proofs.RuleKept.{sets_stop}
use Rattle.worker_board.proofs.Sits.{at_hand}
use Rattle.worker_board.proofs.board.Board.stop.Goals as goal

pub fetch_or-requires : goal.fetch_or-requires
fetch_or-requires c =
    let some_number : 0 < length c.seat.inside.place.me.0.numbers = omega (arith, c.seat.invariant.held, c.seat.invariant.some_held) in (
      (at_hand _ _ _ _ c.self.view_is c.seat.view_is c.requires.of_board).table,
      omega (arith, c.self.invariant.words),
      sets_stop c.self.inside.table.shared.key _ _ _ some_number,
    )
