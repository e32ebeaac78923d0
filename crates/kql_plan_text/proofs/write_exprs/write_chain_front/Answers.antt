use Rattle.std.proofs.Common.{◌-◌, arith}
use Rattle.kql_plan_text.proofs.Chains.{front_start, front_step}
use Rattle.kql_plan_text.proofs.write_exprs.write_chain_front.Goals as goal

pub loop-left-init : goal.loop-left-init
loop-left-init c = record { within = omega arith; written = front_start c.args.links.now c.args.text.now }

pub loop-left-preserved : goal.loop-left-preserved
loop-left-preserved c = record {
  within = omega arith;
  written = front_step _ _ _ _ _ c.args.links.now (c.loop-left.left - 1) c.loop-left.left c.index-links-left.result _ (omega arith) (omega arith)
      c.loop-left.invariant.written c.func.ensures.func c.name.ensures.name c.in_ok-push_str.ensures.added c.in_ok-push_str-2.ensures.added;
}
