use Rattle.std.proofs.Common.{◌≡◌, ◌++◌, drop, false}
use Rattle.kql_lexer.specs.Strings.{halved}
use Rattle.kql_lexer.proofs.strings.halve.Given as goal

abbrev pub invariant-loop-byte : goal.invariant-loop-byte
invariant-loop-byte l = l.text.items ++ halved l.sign l.half (drop l.byte-index l.bytes) ≡ halved l.sign false l.bytes
