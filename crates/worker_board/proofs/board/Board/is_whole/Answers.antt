use Rattle.worker_board.proofs.Sits.{whole_then, whole_else}
use Rattle.worker_board.proofs.board.Board.is_whole.Goals as goal

pub returns-then-seat-self-clause-each : goal.returns-then-seat-self-clause-each
returns-then-seat-self-clause-each c = whole_then _ _ _ c.seat.inside c.seat.invariant c.self.view_is c.seat.view_is c.requires.of_board c.if-seat-self.true

pub returns-else-seat-self-clause-each : goal.returns-else-seat-self-clause-each
returns-else-seat-self-clause-each c = whole_else _ _ _ c.seat.inside c.seat.invariant c.self.view_is c.seat.view_is c.requires.of_board c.if-seat-self.false
