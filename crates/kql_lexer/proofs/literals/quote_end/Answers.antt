use Rattle.std.proofs.Common.{sym, ◌∙◌}
use Rattle.kql_lexer.proofs.LiteralFacts.{quote_next, quote_over, quote_stop}
use Rattle.kql_lexer.proofs.literals.quote_end.Goals as goal

pub returns-in-None-clause-value : goal.returns-in-None-clause-value
returns-in-None-clause-value c =
    sym (quote_stop _ c.args.bytes.now _ c.loop-i-test.true (sym c.quote_after.ensures ∙ c.in-None.is)) ∙ c.loop-i.invariant

pub loop-i-preserved : goal.loop-i-preserved
loop-i-preserved c =
    sym (quote_next _ _ c.args.bytes.now _ c.loop-i-test.true (sym c.quote_after.ensures ∙ c.in-Some.is)) ∙ c.loop-i.invariant

pub returns-clause-value : goal.returns-clause-value
returns-clause-value c = sym (quote_over _ c.args.bytes.now _ c.loop-i-test.false) ∙ c.loop-i.invariant
