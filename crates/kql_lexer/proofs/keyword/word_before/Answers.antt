use Rattle.std.proofs.Common.{sym, ◌∙◌}
use Rattle.kql_lexer.specs.declared.keyword.Keyword.TheVariants as word
use Rattle.kql_lexer.proofs.WordFacts.{before_hit, before_miss}
use Rattle.kql_lexer.proofs.keyword.word_before.Goals as goal

pub returns-then-starts_with : goal.returns-then-starts_with
returns-then-starts_with c =
    let value = rw c.as_bytes.ensures.value at c.starts_with.ensures.value in
    sym (before_hit _ _ word.Other _ _ c.loop-keyword-test.true c.text.ensures.text (sym value ∙ c.if-starts_with.true)) ∙ c.loop-keyword.invariant

pub loop-keyword-preserved : goal.loop-keyword-preserved
loop-keyword-preserved c =
    let value = rw c.as_bytes.ensures.value at c.starts_with.ensures.value in
    sym (before_miss _ _ word.Other _ _ c.loop-keyword-test.true c.text.ensures.text (sym value ∙ c.if-starts_with.false)) ∙ c.loop-keyword.invariant
