use Rattle.std.proofs.Common.{◌≡◌, [], ◌∷◌, ◌++◌, arith}
use Rattle.std.proofs.lemmas.Grind.{common_steps}
use Rattle.std.specs.List.{flat_map}
use Rattle.kql_plan_text.specs.Operators.{scan_step_text}
use Rattle.kql_plan_text.specs.Plans.{text_of}
use Rattle.kql_plan_text.proofs.PlanSteps.{text_of-map}
use Rattle.kql_plan_text.proofs.write_plans.write_steps.Goals as goal

pub returns : goal.returns
returns c =
    let all : c.loop-step.text ≡ c.args.text.now ++ flat_map (λ s. text_of c.args.margin.now (scan_step_text s ∷ [])) c.args.steps.now = grind (arith, common_steps) in
    record { added = rw (text_of-map c.args.margin.now scan_step_text c.args.steps.now) all }
