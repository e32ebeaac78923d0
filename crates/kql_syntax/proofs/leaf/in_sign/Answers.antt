use Rattle.std.proofs.Common.{◌∙◌}
use Rattle.kql_syntax.proofs.LeafFacts.{taken, in_known}
use Rattle.kql_syntax.proofs.leaf.in_sign.Goals as goal

pub returns-clause-named : goal.returns-clause-named
returns-clause-named c = λ h. rw (c.unwrap_or.ensures, c.in_op.ensures) (taken _ _ (in_known _ ∙ h))
