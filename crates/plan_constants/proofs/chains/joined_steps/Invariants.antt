use Rattle.std.proofs.Common.{◌≡◌, drop}
use Rattle.plan_rules.specs.Folding.{folded_path}
use Rattle.plan_constants.proofs.chains.joined_steps.Given as goal

abbrev pub invariant-loop-step : goal.invariant-loop-step
invariant-loop-step l = record {
  count : l.taken ≡ l.step-index;
  same : folded_path l.fn.whole l.steps ≡ folded_path l.front (drop l.step-index l.steps);
}
