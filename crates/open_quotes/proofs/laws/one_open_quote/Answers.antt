use Rattle.open_quotes.proofs.QuoteFacts.{one-line}
use Rattle.open_quotes.proofs.laws.one_open_quote.Goals as goal

pub returns : goal.returns
returns c = record { line = one-line }
