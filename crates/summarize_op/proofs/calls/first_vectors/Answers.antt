use Rattle.std.proofs.Common.{◌∙◌}
use Rattle.summarize_op.proofs.ResultSteps.{first-results}
use Rattle.summarize_op.proofs.calls.first_vectors.Goals as goal

pub returns : goal.returns
returns c = record {
  values = first-results c.args.f c.args.args.now c.args.t.now c.args.numbers.now c.args.count c.as_slice.result.now c.in_ok-vectors.vectors.items c.requires.first c.requires.call (c.as_slice.ensures.value ∙ c.in_ok-rows.ensures.rows) c.in_ok-vectors.ensures.values;
}
