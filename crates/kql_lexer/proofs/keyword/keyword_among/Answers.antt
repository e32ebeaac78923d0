use Rattle.std.proofs.Common.{sym, ◌∙◌}
use Rattle.kql_lexer.specs.declared.keyword.Keyword.TheVariants as word
use Rattle.kql_lexer.proofs.WordFacts.{among_hit, among_miss, among_past}
use Rattle.kql_lexer.proofs.keyword.keyword_among.Goals as goal

pub returns-then-text-word : goal.returns-then-text-word
returns-then-text-word c =
    sym (among_past _ _ word.Other _ _ c.requires.rises c.loop-keyword-test.true c.text-text.ensures.text c.if-text-word.true) ∙ c.loop-keyword.invariant

pub returns-then-eq : goal.returns-then-eq
returns-then-eq c =
    sym (among_hit _ _ word.Other _ _ c.loop-keyword-test.true c.text-text.ensures.text (sym c.eq.ensures ∙ c.if-eq.true)) ∙ c.loop-keyword.invariant

pub loop-keyword-preserved : goal.loop-keyword-preserved
loop-keyword-preserved c =
    sym (among_miss _ _ word.Other _ _ c.loop-keyword-test.true c.text-text.ensures.text (sym c.eq.ensures ∙ c.if-eq.false)) ∙ c.loop-keyword.invariant
