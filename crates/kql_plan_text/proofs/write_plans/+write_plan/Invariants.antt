use Rattle.std.proofs.Common.{◌≡◌, ◌∷◌, ◌++◌, [], take}
use Rattle.std.specs.Prelude.{codes}
use Rattle.std.specs.List.{flat_map}
use Rattle.kql_plan_text.specs.Plans.{op_lines, plan_lines, text_of}
use Rattle.kql_plan_text.proofs.write_plans.+write_plan.Given as goal

abbrev pub invariant-write_ops-loop-op : goal.invariant-write_ops-loop-op
invariant-write_ops-loop-op l = l.text ≡ l.initial.text ++ flat_map (λ o. text_of l.margin (op_lines o)) (take l.op-index l.ops)

abbrev pub invariant-write_plans-loop-plan : goal.invariant-write_plans-loop-plan
invariant-write_plans-loop-plan l =
    l.text ≡ l.initial.text ++ flat_map (λ p. text_of l.margin (codes ") (" ∷ []) ++ text_of l.further (plan_lines p)) (take l.plan-index l.others)
