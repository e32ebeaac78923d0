use Rattle.open_quotes.proofs.CellFacts.{one-cell}
use Rattle.open_quotes.proofs.laws.behind_it_is_one_cell.Goals as goal

pub returns : goal.returns
returns c = record { cell = one-cell }
