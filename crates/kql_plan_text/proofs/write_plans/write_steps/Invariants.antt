use Rattle.std.proofs.Common.{◌≡◌, ◌∷◌, ◌++◌, [], take}
use Rattle.std.specs.List.{flat_map}
use Rattle.kql_plan_text.specs.Operators.{scan_step_text}
use Rattle.kql_plan_text.specs.Plans.{text_of}
use Rattle.kql_plan_text.proofs.write_plans.write_steps.Given as goal

abbrev pub invariant-loop-step : goal.invariant-loop-step
invariant-loop-step l = l.text ≡ l.initial.text ++ flat_map (λ s. text_of l.margin (scan_step_text s ∷ [])) (take l.step-index l.steps)
