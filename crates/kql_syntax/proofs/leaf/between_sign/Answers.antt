use Rattle.std.proofs.Common.{◌∙◌}
use Rattle.kql_syntax.proofs.LeafFacts.{taken, between_known}
use Rattle.kql_syntax.proofs.leaf.between_sign.Goals as goal

pub returns-clause-named : goal.returns-clause-named
returns-clause-named c = λ h. rw (c.unwrap_or.ensures, c.between_op.ensures) (taken _ _ (between_known _ ∙ h))
