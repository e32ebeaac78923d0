use Rattle.std.proofs.Common.{◌≡◌, take, true}
use Rattle.std.specs.Prelude.{◌&&◌}
use Rattle.std.specs.List.{list_all}
use Rattle.kql_bound.specs.declared.plan.Op.{Op}
use Rattle.pattern_laws.specs.Liftable.{has_no_calls, plan_is_liftable, within_is_liftable}
use Rattle.pattern_places.proofs.plans.+liftable.Given as goal

abbrev pub invariant-within_all-loop-op : goal.invariant-within_all-loop-op
invariant-within_all-loop-op l = list_all (within_is_liftable l.marks l.tables) (take l.op-index l.ops) ≡ true

abbrev pub invariant-apart_all-loop-op : goal.invariant-apart_all-loop-op
invariant-apart_all-loop-op l = list_all (λ (o : Op). has_no_calls o && within_is_liftable l.marks l.tables o) (take l.op-index l.ops) ≡ true

abbrev pub invariant-plans_are_liftable-loop-plan : goal.invariant-plans_are_liftable-loop-plan
invariant-plans_are_liftable-loop-plan l = list_all (plan_is_liftable l.marks l.tables) (take l.plan-index l.plans) ≡ true
