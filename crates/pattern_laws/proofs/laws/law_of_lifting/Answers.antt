use Rattle.pattern_laws.proofs.ProgramLaws.{lifted_means}
use Rattle.pattern_laws.proofs.WithoutCalls.{stays_without_calls}
use Rattle.pattern_laws.proofs.laws.law_of_lifting.Goals as goal

pub returns : goal.returns
returns c = record { means = lifted_means; stays = stays_without_calls }
