use Rattle.std.proofs.Common.{◌≡◌, ℕ, get_or, take, true}
use Rattle.std.specs.Prelude.{◌||◌}
use Rattle.kql_plain.specs.Readings.{ops_name, plans_name}
use Rattle.kql_plain.proofs.readings.+mark_plan.Given as goal

-- the lets that the operators so far name are marked
abbrev pub invariant-mark_ops-loop-op : goal.invariant-mark_ops-loop-op
invariant-mark_ops-loop-op l = (i : ℕ) → get_or l.named i true ≡ (get_or l.initial.named i true || ops_name i (take l.op-index l.ops))

-- the lets that the plans so far name are marked
abbrev pub invariant-mark_plans-loop-plan : goal.invariant-mark_plans-loop-plan
invariant-mark_plans-loop-plan l = (i : ℕ) → get_or l.named i true ≡ (get_or l.initial.named i true || plans_name i (take l.plan-index l.plans))
