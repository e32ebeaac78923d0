use Rattle.kql_meaning.proofs.NothingLaws.{absent_without_row}
use Rattle.kql_meaning.proofs.laws.law_of_nothing.Goals as goal

pub returns-clause-cells : goal.returns-clause-cells
returns-clause-cells c = absent_without_row
