use Rattle.std.proofs.Common.{◌≡◌, take, true}
use Rattle.std.specs.List.{list_all}
use Rattle.kql_lexer.specs.Bytes.{is_word_char}
use Rattle.kql_lexer.proofs.classes.all_word_chars.Given as goal

abbrev pub invariant-loop-byte : goal.invariant-loop-byte
invariant-loop-byte l = list_all is_word_char (take l.byte-index l.bytes) ≡ true
