use Rattle.kql_syntax.proofs.TreeLaws.{one_tree}
use Rattle.kql_syntax.proofs.laws.trees_are_one.Goals as goal

pub returns : goal.returns
returns c = record { tree = one_tree }
