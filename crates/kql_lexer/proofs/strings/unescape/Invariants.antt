use Rattle.std.proofs.Common.{◌≡◌, ◌++◌, drop, false, option_map}
use Rattle.kql_lexer.specs.Strings.{unescaped}
use Rattle.kql_lexer.proofs.strings.unescape.Given as goal

abbrev pub invariant-loop-byte : goal.invariant-loop-byte
invariant-loop-byte l = option_map (λ t. l.text.items ++ t) (unescaped l.kept (drop l.byte-index l.bytes)) ≡ unescaped false l.bytes
