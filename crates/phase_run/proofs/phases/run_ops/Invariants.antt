use Rattle.std.proofs.Common.{◌≡◌, length}
use Rattle.kql_plain.specs.AtHand.{OpsFit, world_of}
use Rattle.kql_plain.specs.Inputs.{input_table}
use Rattle.phase_laws.specs.Runs.{made_of}
use Rattle.phase_forms.specs.Phases.{ops_phases}
use Rattle.phase_run.proofs.ToldSteps.{HoldNone, Telling}
use Rattle.phase_run.proofs.phases.run_ops.Given as goal

-- the operators that are left fit the table so far, make of it what all make of the first, and hold no plan
abbrev pub invariant-rest : goal.invariant-rest
invariant-rest g l = record {
  fit : OpsFit l.left (world_of l.catalogue l.lets) (input_table l.made);
  rest : made_of l.left (world_of l.catalogue l.lets) (input_table l.made) ≡ made_of l.ops (world_of l.catalogue l.lets) (input_table l.fn.from);
  none : HoldNone l.left;
  told : Telling l.fn.phases l.phases (λ m. ops_phases m l.ops) (λ m. ops_phases m l.left);
}

abbrev pub decreases-rest : goal.decreases-rest
decreases-rest g l = length l.left
