use Rattle.std.proofs.Common.{◌≡◌, ◌∷◌, ◌++◌, [], length, reverse}
use Rattle.kql_plain.specs.AtHand.{FitBehind, means_behind}
use Rattle.kql_plain.specs.Readings.{last_readings}
use Rattle.phase_forms.specs.Phases.{plan_phases, plans_phases}
use Rattle.phase_run.proofs.ToldSteps.{Telling}
use Rattle.phase_run.proofs.lets.table_behind.Given as goal

-- the lets that are left and the plan behind them fit and mean the same behind the tables that stand, and the flags are theirs
abbrev pub invariant-lets : goal.invariant-lets
invariant-lets g l = record {
  fit : FitBehind l.left l.main l.catalogue l.made.items;
  rest : means_behind l.left l.main l.catalogue l.made.items ≡ means_behind l.fn.lets l.fn.main l.fn.catalogue [];
  flags : reverse l.last ≡ last_readings (length l.fn.lets) (l.left ++ l.main ∷ []);
  told : Telling l.fn.phases l.phases (λ m. plans_phases m l.fn.lets ++ plan_phases m l.fn.main) (λ m. plans_phases m l.left ++ plan_phases m l.main);
}

abbrev pub decreases-lets : goal.decreases-lets
decreases-lets g l = length l.left
