use Rattle.kql_scalar.proofs.ListSteps.{same-answer}
use Rattle.kql_scalar.proofs.list_keys.is_same.Goals as goal

pub returns : goal.returns
returns c = same-answer _ _ c.is_same.result c.is_same.ensures.same
