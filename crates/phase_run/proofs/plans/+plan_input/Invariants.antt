use Rattle.std.proofs.Common.{◌≡◌, ◌≤◌, ◌++◌, drop, map}
use Rattle.std.specs.Prelude.{slice_range}
use Rattle.kql_meaning.specs.Plans.{one_after_another, op_means}
use Rattle.kql_plain.specs.AtHand.{OpsFit, PlansFit, plans_mean, world_of}
use Rattle.kql_plain.specs.Inputs.{input_table}
use Rattle.phase_forms.specs.Phases.{ops_phases, plans_phases}
use Rattle.phase_run.proofs.ToldSteps.{HoldNone, Telling}
use Rattle.phase_run.proofs.plans.+plan_input.Given as goal

-- the operators from the run on that has begun fit, and make of the table so far what all make of the first
abbrev pub invariant-ops_input-loop-op : goal.invariant-ops_input-loop-op
invariant-ops_input-loop-op g l = record {
  at : l.at ≡ l.op-index;
  begun : l.begun ≤ l.at;
  fit : OpsFit (drop l.begun l.ops) (world_of l.catalogue l.lets) (input_table l.made);
  rest : one_after_another (map op_means (drop l.begun l.ops)) (world_of l.catalogue l.lets) (input_table l.made) ≡ one_after_another (map op_means l.ops) (world_of l.catalogue l.lets) (input_table l.fn.from);
  none : HoldNone (slice_range l.ops l.begun l.at);
  told : Telling l.fn.phases l.phases (λ m. ops_phases m l.ops) (λ m. ops_phases m (drop l.begun l.ops));
}

-- the plans that are left fit, and their tables stand behind those so far
abbrev pub invariant-plans_inputs-loop-plan : goal.invariant-plans_inputs-loop-plan
invariant-plans_inputs-loop-plan g l = record {
  fit : PlansFit (drop l.plan-index l.plans) (world_of l.catalogue l.lets);
  rest : map input_table l.made.items ++ plans_mean (drop l.plan-index l.plans) (world_of l.catalogue l.lets) ≡ plans_mean l.plans (world_of l.catalogue l.lets);
  told : Telling l.fn.phases l.phases (λ m. plans_phases m l.plans) (λ m. plans_phases m (drop l.plan-index l.plans));
}
