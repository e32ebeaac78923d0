use Rattle.std.proofs.Common.{◌<◌, length, arith}
use Rattle.worker_board.proofs.RuleKept.{draws}
use Rattle.worker_board.proofs.Sits.{at_hand, not_done}
use Rattle.worker_board.proofs.board.Board.claim.Goals as goal

pub fetch_add-drawn-requires : goal.fetch_add-drawn-requires
fetch_add-drawn-requires c =
    let some_number : 0 < length c.seat.inside.place.me.0.numbers = omega (arith, c.seat.invariant.held, c.seat.invariant.some_held) in (
      (at_hand _ _ _ _ c.self.view_is c.seat.view_is c.requires.of_board).table,
      omega (arith, c.self.invariant.words),
      draws c.self.inside.table.shared.key _ _ _ (not_done _ _ _ _ c.self.view_is c.seat.view_is c.requires.not_done) some_number,
    )
