use Rattle.std.proofs.Common.{◌-◌, length}
use Rattle.kql_lexer.proofs.LexFacts.{Reading}
use Rattle.kql_lexer.proofs.lexer.lex.Given as goal

abbrev pub invariant-loop-at : goal.invariant-loop-at
invariant-loop-at l = Reading l.text l.tokens l.at l.place l.plain

abbrev pub decreases-loop-at : goal.decreases-loop-at
decreases-loop-at l = length l.text - l.at
