use Rattle.kql_meaning.proofs.NumberLaws.{terms_are_those, terms_rise}
use Rattle.kql_meaning.proofs.laws.law_of_terms.Goals as goal

pub returns : goal.returns
returns c = record { members = terms_are_those; rising = terms_rise }
