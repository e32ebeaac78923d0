use Rattle.std.proofs.Common.{◌∙◌}
use Rattle.kql_syntax.proofs.LeafFacts.{taken, compare_known}
use Rattle.kql_syntax.proofs.leaf.compare_sign.Goals as goal

pub returns-clause-named : goal.returns-clause-named
returns-clause-named c = λ h. rw (c.unwrap_or.ensures, c.compare_op.ensures) (taken _ _ (compare_known _ ∙ h))
