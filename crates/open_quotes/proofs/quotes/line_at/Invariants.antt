use Rattle.std.proofs.Common.{◌≡◌}
use Rattle.open_quotes.specs.Quotes.{line_of}
use Rattle.open_quotes.proofs.quotes.line_at.Given as goal

abbrev pub invariant-loop-i : goal.invariant-loop-i
invariant-loop-i l = l.line ≡ line_of l.text l.i
