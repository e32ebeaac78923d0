use Rattle.kql_meaning.proofs.JoinLaws.{pairs_in_order, pairs_match}
use Rattle.kql_meaning.proofs.laws.law_of_inner_join.Goals as goal

pub returns-clause-matching : goal.returns-clause-matching
returns-clause-matching c = pairs_match

pub returns-clause-ordered : goal.returns-clause-ordered
returns-clause-ordered c = pairs_in_order
