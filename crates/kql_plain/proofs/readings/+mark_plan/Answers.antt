use Rattle.std.proofs.Common.{◌∙◌, ap, arith, get_or, sym, true}
use Rattle.std.specs.Prelude.{◌||◌}
use Rattle.std.proofs.lemmas.List.{take_all}
use Rattle.kql_plain.specs.Readings.{op_names, ops_name, plan_names, plans_name}
use Rattle.kql_plain.proofs.ReadingSteps.{more-marked, names-Join, names-Partition, names-Union, part-marked, parts-last, parts-marked}
use Rattle.kql_plain.proofs.readings.+mark_plan.Goals as goal

-- An operator.

pub mark_op-returns-in-Join : goal.mark_op-returns-in-Join
mark_op-returns-in-Join t c = record {
  marked = λ i. part-marked i c.args.named.now c.mark_plan.new.named (plan_names i c.in-Join.right) (op_names i c.args.op.now) (c.mark_plan.ensures.marked i) (ap (op_names i) c.in-Join.is ∙ names-Join i c.in-Join.field-0 c.in-Join.right);
}

pub mark_op-returns-in-Union : goal.mark_op-returns-in-Union
mark_op-returns-in-Union t c = record {
  marked = λ i. part-marked i c.args.named.now c.mark_plans.new.named (plans_name i c.as_slice.result.now) (op_names i c.args.op.now) (c.mark_plans.ensures.marked i)
      (ap (op_names i) c.in-Union.is ∙ (names-Union i c.in-Union.field-0 c.in-Union.others ∙ ap (plans_name i) (sym c.as_slice.ensures.items)));
}

pub mark_op-returns-in-Partition : goal.mark_op-returns-in-Partition
mark_op-returns-in-Partition t c = record {
  marked = λ i. part-marked i c.args.named.now c.mark_ops.new.named (ops_name i c.as_slice-in-Partition.result.now) (op_names i c.args.op.now) (c.mark_ops.ensures.marked i)
      (ap (op_names i) c.in-Partition.is ∙ (names-Partition i c.in-Partition.field-0 c.in-Partition.ops ∙ ap (ops_name i) (sym c.as_slice-in-Partition.ensures.items)));
}

-- Operators, and plans.

pub mark_ops-loop-op-preserved : goal.mark_ops-loop-op-preserved
mark_ops-loop-op-preserved t c = λ i. more-marked (op_names i) c.args.ops.now c.loop-op.op-index c.op-item.result _ _ _ (omega (arith, c.loop-op-test.true)) c.op-item.is (c.loop-op.invariant i) (c.mark_op.ensures.marked i)

pub mark_ops-returns : goal.mark_ops-returns
mark_ops-returns t c = record {
  marked = λ i. c.loop-op.invariant i ∙ ap (λ os. get_or c.args.named.now i true || ops_name i os) (take_all c.loop-op.op-index c.args.ops.now (omega (arith, c.loop-op-test.false)));
}

pub mark_plans-loop-plan-preserved : goal.mark_plans-loop-plan-preserved
mark_plans-loop-plan-preserved t c = λ i. more-marked (plan_names i) c.args.plans.now c.loop-plan.plan-index c.plan-item.result _ _ _ (omega (arith, c.loop-plan-test.true)) c.plan-item.is (c.loop-plan.invariant i) (c.mark_plan.ensures.marked i)

pub mark_plans-returns : goal.mark_plans-returns
mark_plans-returns t c = record {
  marked = λ i. c.loop-plan.invariant i ∙ ap (λ ps. get_or c.args.named.now i true || plans_name i ps) (take_all c.loop-plan.plan-index c.args.plans.now (omega (arith, c.loop-plan-test.false)));
}

-- A plan.

pub mark_plan-returns : goal.mark_plan-returns
mark_plan-returns t c = record {
  marked = λ i. parts-marked i c.args.plan.now c.as_slice.result.now _ _ _ c.as_slice.ensures.items (c.mark_ops.ensures.marked i) (c.mark_source.ensures.marked i);
  last = parts-last c.args.plan.now c.as_slice.result.now (λ i. get_or c.args.named.now i true) (λ i. get_or c.mark_ops.new.named i true) c.mark_source.result c.as_slice.ensures.items c.mark_ops.ensures.marked c.mark_source.ensures.last;
}
