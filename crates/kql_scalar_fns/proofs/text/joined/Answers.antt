use Rattle.std.proofs.Common.{arith, ◌∙◌}
use Rattle.kql_scalar_fns.specs.Readings.{text_of}
use Rattle.kql_scalar_fns.proofs.ArgumentFacts.{tail-form}
use Rattle.kql_scalar_fns.proofs.JoinFacts.{join-step}
use Rattle.kql_scalar_fns.proofs.text.joined.Goals as goal

pub values-preserved : goal.values-preserved
values-preserved c = record {
  form = tail-form _ c.values.invariant.form;
  text = join-step text_of c.values.left.now c.value-item.result c.values.text c.push_text_of.new.out c.value-item.is (omega arith) c.in_ok-push_text_of.ensures ∙ c.values.invariant.text;
}
