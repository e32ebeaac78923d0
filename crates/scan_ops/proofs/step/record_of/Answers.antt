use Rattle.std.proofs.Common.{rules}
use Rattle.scan_ops.proofs.StepFacts.{forms-more, source-in, values-more}
use Rattle.scan_ops.proofs.step.record_of.Goals as goal

pub value_of-requires-clause-inside : goal.value_of-requires-clause-inside
value_of-requires-clause-inside c = source-in c.args.t.now.columns c.args.sources.now c.each.source-index c.source-item.result c.requires.inside (search rules) c.source-item.is

pub each-preserved : goal.each-preserved
each-preserved c = record {
  values = values-more c.args.t.now c.args.i c.args.s.now c.args.sources.now c.each.source-index c.source-item.result c.each.line c.push.new.self c.in_ok-value.value (search rules) c.source-item.is c.each.invariant.values c.in_ok-value.ensures.value c.in_ok-push.ensures.added;
  form = forms-more c.each.line c.push.new.self c.in_ok-value.value c.each.invariant.form c.in_ok-value.ensures.form c.in_ok-push.ensures.added;
}
