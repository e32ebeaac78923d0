use Rattle.std.proofs.Common.{refl}
use Rattle.worker_board.proofs.Sits.{seat_begins}
use Rattle.worker_board.proofs.board.seated.Goals as goal

pub invariant_of-result : goal.invariant_of-result
invariant_of-result c = seat_begins _ c.args.size c.args.worker c.requires.alone.0 c.requires.alone.1 c.requires.size c.requires.worker c.in_ok-claims.ensures.items c.in_ok-claims.ensures.capacity refl refl refl refl refl refl
