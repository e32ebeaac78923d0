use Rattle.std.proofs.Common.{◌∙◌}
use Rattle.kql_syntax.proofs.LeafFacts.{taken, sum_known}
use Rattle.kql_syntax.proofs.leaf.sum_sign.Goals as goal

pub returns-clause-named : goal.returns-clause-named
returns-clause-named c = λ h. rw (c.unwrap_or.ensures, c.sum_op.ensures) (taken _ _ (sum_known _ ∙ h))
