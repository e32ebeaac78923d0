use Rattle.kql_meaning.proofs.GroupLaws.{keys_are_of_rows, keys_by_first_row, keys_differ}
use Rattle.kql_meaning.proofs.laws.law_of_keys.Goals as goal

pub returns : goal.returns
returns c = record { differ = keys_differ; rows = keys_are_of_rows; ordered = keys_by_first_row }
