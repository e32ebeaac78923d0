use Rattle.json_losses.proofs.NumberFacts.{counts-nulls}
use Rattle.json_losses.proofs.laws.counted_numbers.Goals as goal

pub returns : goal.returns
returns c = record { nulls = counts-nulls }
