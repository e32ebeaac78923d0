use Rattle.kql_scalar_fns.proofs.ChoiceLaws.{greatest-is-taken, least-is-taken}
use Rattle.kql_scalar_fns.proofs.laws.least_and_greatest.Goals as goal

pub returns : goal.returns
returns c = record { least = least-is-taken; greatest = greatest-is-taken }
