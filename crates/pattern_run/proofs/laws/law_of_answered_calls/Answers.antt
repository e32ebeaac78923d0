use Rattle.pattern_run.proofs.MeaningLaws.{patterned_means}
use Rattle.pattern_run.proofs.laws.law_of_answered_calls.Goals as goal

pub returns : goal.returns
returns c = record { means = patterned_means }
