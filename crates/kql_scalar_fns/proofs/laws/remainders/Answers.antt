use Rattle.kql_scalar_fns.proofs.RemainderLaws.{remainder-is-taken, zero-has-none}
use Rattle.kql_scalar_fns.proofs.laws.remainders.Goals as goal

pub returns : goal.returns
returns c = record { remainder = remainder-is-taken; zero = zero-has-none }
