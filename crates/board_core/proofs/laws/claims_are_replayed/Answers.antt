use Rattle.board_core.proofs.Replayed.{replayed}
use Rattle.board_core.proofs.laws.claims_are_replayed.Goals as goal

pub returns : goal.returns
returns c = record { replayed = λ claims pieces workers each. replayed claims pieces workers each }
