use Rattle.std.proofs.Common.{arith}
use Rattle.worker_board.proofs.Lawful.{lawful, names_drawn}
use Rattle.worker_board.proofs.laws.every_board_is_lawful.Goals as goal

pub returns : goal.returns
returns c =
    record {
      lawful = λ size s keeps. lawful size _ _ s.views keeps.kept;
      core = λ size s keeps. c.first_claims_are_replayed.ensures.replayed _ _ _ _ (omega arith) (names_drawn size _ _ s.views keeps.kept);
    }
