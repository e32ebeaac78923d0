use Rattle.kql_meaning.proofs.GroupLaws.{run_begins}
use Rattle.kql_meaning.proofs.laws.law_of_runs.Goals as goal

pub returns : goal.returns
returns c = record { begins = run_begins }
