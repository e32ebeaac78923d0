use Rattle.kql_meaning.proofs.NameLaws.{both_names_differ, name_is_first_free, name_is_free, right_kinds_stay}
use Rattle.kql_meaning.proofs.laws.law_of_join_names.Goals as goal

pub returns : goal.returns
returns c = record { free = name_is_free; first = name_is_first_free; differ = both_names_differ; kinds = right_kinds_stay }
