use Rattle.kql_syntax.proofs.ClassLaws.{class_means, means_class}
use Rattle.kql_syntax.proofs.class.is_of.Goals as goal

pub returns-clause-meaning : goal.returns-clause-meaning
returns-clause-meaning c = rw c.has.ensures (class_means _ _, means_class _ _)
