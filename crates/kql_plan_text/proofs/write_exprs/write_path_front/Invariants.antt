use Rattle.std.proofs.Common.{◌≡◌, ◌++◌, take}
use Rattle.kql_plan_text.specs.Exprs.{path_front}
use Rattle.kql_plan_text.proofs.write_exprs.write_path_front.Given as goal

abbrev pub invariant-loop-step : goal.invariant-loop-step
invariant-loop-step l = l.text ≡ l.initial.text ++ path_front (take l._step-index l.steps)
