use Rattle.std.proofs.Common.{◌≡◌}
use Rattle.kql_lexer.specs.Places.{place_at}
use Rattle.kql_lexer.proofs.place.Place.past.Given as goal

abbrev pub invariant-loop-i : goal.invariant-loop-i
invariant-loop-i l = l.place ≡ place_at l.text l.i
