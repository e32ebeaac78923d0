use Rattle.std.proofs.Common.{◌≡◌, drop}
use Rattle.kql_lexer.specs.Words.{word_before}
use Rattle.kql_lexer.proofs.keyword.word_before.Given as goal

abbrev pub invariant-loop-keyword : goal.invariant-loop-keyword
invariant-loop-keyword l =
    word_before (drop l.keyword-index l.keywords) l.bytes ≡ word_before l.keywords l.bytes
