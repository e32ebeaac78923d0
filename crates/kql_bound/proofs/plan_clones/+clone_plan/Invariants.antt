use Rattle.std.proofs.Common.{◌≡◌, take}
use Rattle.kql_bound.proofs.plan_clones.+clone_plan.Given as goal

abbrev pub invariant-clone_ops-loop-op : goal.invariant-clone_ops-loop-op
invariant-clone_ops-loop-op l = l.copies ≡ take l.op-index l.op-items

abbrev pub invariant-clone_plans-loop-plan : goal.invariant-clone_plans-loop-plan
invariant-clone_plans-loop-plan l = l.copies ≡ take l.plan-index l.plan-items
