use Rattle.std.proofs.Common.{◌≡◌, ◌+◌, drop, false, option_map}
use Rattle.kql_lexer.specs.Literals.{quote_end}
use Rattle.kql_lexer.proofs.literals.quote_end.Given as goal

abbrev pub invariant-loop-i : goal.invariant-loop-i
invariant-loop-i l = option_map (λ n. l.i + n) (quote_end l.kept (drop l.i l.bytes)) ≡ quote_end false l.bytes
