use Rattle.std.proofs.Common.{◌≡◌, drop, false}
use Rattle.std.specs.Prelude.{is_some}
use Rattle.kql_lexer.specs.Strings.{unescaped}
use Rattle.kql_lexer.proofs.strings.has_known_escapes.Given as goal

abbrev pub invariant-loop-byte : goal.invariant-loop-byte
invariant-loop-byte l = is_some (unescaped l.kept (drop l.byte-index l.bytes)) ≡ is_some (unescaped false l.bytes)
