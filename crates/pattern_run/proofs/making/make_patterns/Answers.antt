use Rattle.std.proofs.Common.{◌∙◌}
use Rattle.pattern_run.proofs.MadePatterns.{call-judged, finds-more, made-along}
use Rattle.pattern_run.proofs.making.make_patterns.Goals as goal

pub returns-in_err-pattern-clause-judged : goal.returns-in_err-pattern-clause-judged
returns-in_err-pattern-clause-judged g c =
    call-judged g.P.PatternMaker.makes g.P.PatternMaker.refuses c.args.calls.now c.loop-call.call-index c.call-item.result c.in_err-pattern.field-0.0 c.from_residual-in_err-pattern.result
    c.loop-call-test.true c.call-item.is c.loop-call.invariant.judged c.in_err-pattern.ensures.judged c.from_residual-in_err-pattern.ensures.1

pub loop-call-preserved : goal.loop-call-preserved
loop-call-preserved g c = record {
  found = c.in_ok-pattern.ensures.found ∙ c.loop-call.invariant.found;
  count = c.in_ok-pattern.ensures.counted ∙ c.loop-call.invariant.count;
  made = finds-more g.P.Made.Pattern.finds (g.P.PatternMaker.found c.args.patterns.now) (g.P.PatternMaker.found c.loop-call.patterns) c.args.calls.now c.loop-call.call-index c.call-item.result _ _ c.in_ok-pattern.pattern
      c.loop-call-test.true c.call-item.is c.loop-call.invariant.found c.in_ok-push.ensures.added c.loop-call.invariant.made c.in_ok-pattern.ensures.made;
  judged = made-along g.P.PatternMaker.makes g.P.PatternMaker.refuses c.args.calls.now c.loop-call.call-index c.call-item.result c.loop-call-test.true c.call-item.is c.loop-call.invariant.judged c.in_ok-pattern.ensures.judged;
}
