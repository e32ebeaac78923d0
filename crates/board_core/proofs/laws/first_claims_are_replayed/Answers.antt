use Rattle.board_core.proofs.Replayed.{begun}
use Rattle.board_core.proofs.laws.first_claims_are_replayed.Goals as goal

pub returns : goal.returns
returns c = record { replayed = λ claims drawn pieces workers within each. begun claims drawn workers each pieces within }
