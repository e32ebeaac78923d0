use Rattle.kql_scalar_fns.proofs.ChoiceLaws.{first-is-taken, last-is-taken}
use Rattle.kql_scalar_fns.proofs.laws.first_that_is_given.Goals as goal

pub returns : goal.returns
returns c = record { first = first-is-taken; last = last-is-taken }
