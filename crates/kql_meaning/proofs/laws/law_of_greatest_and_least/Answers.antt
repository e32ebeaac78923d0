use Rattle.kql_meaning.proofs.ChoiceLaws.{greatest_is_of_row, greatest_row_is_first, least_is_of_row, least_row_is_first}
use Rattle.kql_meaning.proofs.laws.law_of_greatest_and_least.Goals as goal

pub returns : goal.returns
returns c = record { greatest = greatest_row_is_first; least = least_row_is_first; greatest_value = greatest_is_of_row; least_value = least_is_of_row }
