use Rattle.std.proofs.Common.{length, ◌-◌}
use Rattle.kql_lexer.proofs.LiteralFacts.{RawTo}
use Rattle.kql_lexer.proofs.literals.raw_len.Given as goal

abbrev pub invariant-loop-i : goal.invariant-loop-i
invariant-loop-i l = RawTo l.bytes l.i l.plain

abbrev pub decreases-loop-i : goal.decreases-loop-i
decreases-loop-i l = length l.bytes - l.i
