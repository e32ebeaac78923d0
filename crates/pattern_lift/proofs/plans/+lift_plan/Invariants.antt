use Rattle.std.proofs.Common.{◌≡◌, map, take}
use Rattle.pattern_lift.specs.Lifted.{lifted_op, lifted_plan}
use Rattle.pattern_lift.proofs.plans.+lift_plan.Given as goal

abbrev pub invariant-ops-loop-one : goal.invariant-ops-loop-one
invariant-ops-loop-one l = l.all ≡ map (lifted_op l.marks l.tables) (take l.one-index l.ops)

abbrev pub invariant-plans-loop-one : goal.invariant-plans-loop-one
invariant-plans-loop-one l = l.all ≡ map (lifted_plan l.marks l.tables) (take l.one-index l.plans)
