use Rattle.std.proofs.Common.{arith, map, ◌∙◌}
use Rattle.kql_cells.specs.declared.value.Value.{Value}
use Rattle.kql_scalar_fns.specs.Comparison.{in_kind, members, values_in}
use Rattle.kql_scalar_fns.proofs.ArgumentFacts.{tail-form}
use Rattle.kql_scalar_fns.proofs.JoinFacts.{join-step}
use Rattle.kql_scalar_fns.proofs.membership.values_in.Goals as goal

pub operands-preserved : goal.operands-preserved
unfolding values_in
operands-preserved c = record {
  form = tail-form _ c.operands.invariant.form;
  values = join-step (λ (w : Value). map (in_kind c.args.kind) (members w)) c.operands.left.now c.operand-item.result c.operands.values.items c.push_members.new.values.items c.operand-item.is (omega arith) c.in_ok-push_members.ensures ∙ c.operands.invariant.values;
}
