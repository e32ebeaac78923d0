use Rattle.std.proofs.Common.{◌≡◌, ◌++◌, arith}
use Rattle.std.proofs.lemmas.Grind.{common_steps}
use Rattle.std.specs.List.{flat_map}
use Rattle.kql_plan_text.specs.Plans.{op_lines, text_of}
use Rattle.kql_plan_text.proofs.PlanSteps.{text_of-ops}
use Rattle.kql_plan_text.proofs.write_plans.+write_plan.Goals as goal

pub write_ops-returns : goal.write_ops-returns
write_ops-returns t c =
    let all : c.loop-op.text ≡ c.args.text.now ++ flat_map (λ o. text_of c.args.margin.now (op_lines o)) c.args.ops.now = grind (arith, common_steps) in
    record { added = rw (text_of-ops c.args.margin.now c.args.ops.now) all }
