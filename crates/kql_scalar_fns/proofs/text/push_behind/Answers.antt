use Rattle.std.proofs.Common.{ℕ, List, ◌++◌, append_assoc, arith, ap, ◌∙◌}
use Rattle.kql_cells.specs.Seen.{seen}
use Rattle.kql_cells.specs.declared.value.Value.{Value}
use Rattle.kql_scalar_fns.specs.Readings.{text_of}
use Rattle.kql_scalar_fns.proofs.ArgumentFacts.{tail-form}
use Rattle.kql_scalar_fns.proofs.JoinFacts.{join-step}
use Rattle.kql_scalar_fns.proofs.text.push_behind.Goals as goal

pub values-preserved : goal.values-preserved
values-preserved c = record {
  form = tail-form _ c.values.invariant.form;
  text = join-step (λ (v : Value). c.args.between.now ++ text_of v) c.values.left.now c.value-item.result c.values.text c.push_text_of.new.out c.value-item.is (omega arith)
      (c.in_ok-push_text_of.ensures ∙ (ap (λ (t : List ℕ). t ++ text_of (seen c.value-item.result)) c.in_ok-push_str.ensures.added ∙ append_assoc c.values.text c.args.between.now (text_of (seen c.value-item.result))))
      ∙ c.values.invariant.text;
}
