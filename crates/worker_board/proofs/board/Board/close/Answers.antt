use Rattle.worker_board.proofs.Sits.{gathers}
use Rattle.worker_board.proofs.board.Board.close.Goals as goal

pub invariant_of-result : goal.invariant_of-result
invariant_of-result c = gathers _ _ _ _ c.self.view_is c.seat.view_is _ _ _ _ _ c.self.invariant.key c.seat.invariant.claims c.requires.whole c.close_with.ensures.values.2

pub returns-clause-each : goal.returns-clause-each
returns-clause-each c = (gathers _ _ _ _ c.self.view_is c.seat.view_is _ _ _ _ _ c.self.invariant.key c.seat.invariant.claims c.requires.whole c.close_with.ensures.values.2).0

pub returns-clause-count : goal.returns-clause-count
returns-clause-count c = (gathers _ _ _ _ c.self.view_is c.seat.view_is _ _ _ _ _ c.self.invariant.key c.seat.invariant.claims c.requires.whole c.close_with.ensures.values.2).1

pub returns-clause-core : goal.returns-clause-core
returns-clause-core c =
    c.claims_are_replayed.ensures.replayed _ _ _ (gathers _ _ _ _ c.self.view_is c.seat.view_is _ _ _ _ _ c.self.invariant.key c.seat.invariant.claims c.requires.whole c.close_with.ensures.values.2).0
