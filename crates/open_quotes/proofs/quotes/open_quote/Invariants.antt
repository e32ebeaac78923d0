use Rattle.std.proofs.Common.{◌≡◌, true, Some}
use Rattle.open_quotes.specs.Places.{place_of}
use Rattle.open_quotes.specs.Quotes.{IsOpened, is_quoted, state_at}
use Rattle.open_quotes.proofs.quotes.open_quote.Given as goal

abbrev pub invariant-loop-i : goal.invariant-loop-i
invariant-loop-i l = record {
  stands : place_of (state_at l.text l.i) ≡ Some l.place;
  opened : is_quoted (state_at l.text l.i) ≡ true → IsOpened l.text l.opened l.i;
}
