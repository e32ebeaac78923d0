use Rattle.std.proofs.Common.{◌≡◌, map, take}
use Rattle.plan_rules.specs.FoldedPlans.{folded_op, folded_plan}
use Rattle.plan_constants.proofs.plans.+fold_plan.Given as goal

abbrev pub invariant-ops-loop-one : goal.invariant-ops-loop-one
invariant-ops-loop-one l = l.all ≡ map folded_op (take l.one-index l.ops)

abbrev pub invariant-plans-loop-one : goal.invariant-plans-loop-one
invariant-plans-loop-one l = l.all ≡ map folded_plan (take l.one-index l.plans)
