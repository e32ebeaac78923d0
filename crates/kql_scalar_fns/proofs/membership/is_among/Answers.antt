use Rattle.std.proofs.Common.{Bool, arith, sym, ◌∙◌}
use Rattle.std.specs.List.{list_any}
use Rattle.kql_cells.specs.Seen.{seen}
use Rattle.kql_cells.specs.declared.value.Value.{Value}
use Rattle.kql_scalar_fns.specs.Comparison.{is_among, is_match, members}
use Rattle.kql_scalar_fns.proofs.ArgumentFacts.{tail-form}
use Rattle.kql_scalar_fns.proofs.MemberFacts.{none-step}
use Rattle.kql_scalar_fns.proofs.membership.is_among.Goals as goal

pub operands-preserved : goal.operands-preserved
unfolding is_among
operands-preserved c = record {
  form = tail-form _ c.operands.invariant.form;
  among = none-step (λ (w : Value). list_any (is_match c.args.fold (seen c.args.x)) (members w)) c.operands.left.now c.operand-item.result c.operand-item.is (omega arith) (sym c.in_ok-has_match.ensures ∙ c.if-branch.false) ∙ c.operands.invariant.among;
}
