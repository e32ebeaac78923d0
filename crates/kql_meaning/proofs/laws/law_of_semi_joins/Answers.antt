use Rattle.kql_meaning.proofs.OuterLaws.{left_matched_have_match, matched_rise, right_matched_have_match, semi_and_anti_are_all, semi_gives_matched}
use Rattle.kql_meaning.proofs.laws.law_of_semi_joins.Goals as goal

pub returns-clause-left : goal.returns-clause-left
returns-clause-left c = left_matched_have_match

pub returns-clause-right : goal.returns-clause-right
returns-clause-right c = right_matched_have_match

pub returns-clause-rows : goal.returns-clause-rows
returns-clause-rows c = semi_gives_matched

pub returns-clause-ordered : goal.returns-clause-ordered
returns-clause-ordered c = matched_rise

pub returns-clause-others : goal.returns-clause-others
returns-clause-others c = semi_and_anti_are_all
