use Rattle.std.proofs.Common.{◌∙◌, arith}
use Rattle.summarize_op.proofs.ResultSteps.{first-over, some-args}
use Rattle.summarize_op.proofs.calls.first_vector.Goals as goal

pub unreachable-requires : goal.unreachable-requires
unreachable-requires c = omega (arith, some-args c.args.f c.args.args.now c.args.t.now.columns c.requires.call c.requires.first, c.in_default.len_below)

pub returns : goal.returns
returns c = record {
  values = first-over c.args.f c.args.args.now c.column-item.result c.args.t.now c.args.numbers.now c.args.count c.as_slice.result.now c.in_ok-vector.vector c.requires.first c.requires.call c.in-len1-up.len_at_least c.column-item.is (c.as_slice.ensures.value ∙ c.in_ok-rows.ensures.rows) c.in_ok-vector.ensures.values;
}
