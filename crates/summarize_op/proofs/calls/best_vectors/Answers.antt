use Rattle.std.proofs.Common.{◌∙◌}
use Rattle.summarize_op.proofs.ResultSteps.{best-results}
use Rattle.summarize_op.proofs.calls.best_vectors.Goals as goal

pub returns : goal.returns
returns c = record {
  values = best-results c.args.f c.args.args.now c.rest_of.result.now c.args.t.now c.args.numbers.now c.as_slice.result.now c.args.count c.as_slice-2.result.now c.in_ok-values.field-0.values c.in_ok-rest.rest.items c.in_ok-all.all.items c.requires.best c.requires.call c.in_ok-values.ensures.values (c.as_slice.ensures.items ∙ c.in_ok-values.ensures.places) c.rest_of.ensures.rest (c.as_slice-2.ensures.value ∙ c.in_ok-rows.ensures.rows) c.in_ok-rest.ensures.values c.in_ok-all.ensures.all;
}
