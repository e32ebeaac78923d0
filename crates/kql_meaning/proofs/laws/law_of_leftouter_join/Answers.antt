use Rattle.kql_meaning.proofs.JoinLaws.{left_outer_is_inner_and_more}
use Rattle.kql_meaning.proofs.laws.law_of_leftouter_join.Goals as goal

pub returns : goal.returns
returns c = record { rows = left_outer_is_inner_and_more }
