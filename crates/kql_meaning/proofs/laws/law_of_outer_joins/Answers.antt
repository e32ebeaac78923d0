use Rattle.kql_meaning.proofs.OuterLaws.{right_pairs_in_order, right_pairs_match}
use Rattle.kql_meaning.proofs.laws.law_of_outer_joins.Goals as goal

pub returns-clause-matching : goal.returns-clause-matching
returns-clause-matching c = right_pairs_match

pub returns-clause-ordered : goal.returns-clause-ordered
returns-clause-ordered c = right_pairs_in_order
