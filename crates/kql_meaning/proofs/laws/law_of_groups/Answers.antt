use Rattle.kql_meaning.proofs.GroupLaws.{group_has_its_rows, group_is_of_places, group_keeps_order, row_in_one_group}
use Rattle.kql_meaning.proofs.laws.law_of_groups.Goals as goal

pub returns : goal.returns
returns c = record { places = group_is_of_places; rows = group_has_its_rows; ordered = group_keeps_order; one = row_in_one_group }
