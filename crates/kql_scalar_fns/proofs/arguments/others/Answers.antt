use Rattle.kql_scalar_fns.proofs.ArgumentFacts.{tail-form}
use Rattle.kql_scalar_fns.proofs.arguments.others.Goals as goal

pub returns-in-len1-up-clause-form : goal.returns-in-len1-up-clause-form
returns-in-len1-up-clause-form c = λ h. tail-form _ h
