use Rattle.std.proofs.Common.{◌∙◌}
use Rattle.kql_syntax.proofs.LeafFacts.{taken, prod_known}
use Rattle.kql_syntax.proofs.leaf.prod_sign.Goals as goal

pub returns-clause-named : goal.returns-clause-named
returns-clause-named c = λ h. rw (c.unwrap_or.ensures, c.prod_op.ensures) (taken _ _ (prod_known _ ∙ h))
