use Rattle.std.proofs.Common.{◌≡◌}
use Rattle.kql_trial.specs.Log.{log_table, state_after}
use Rattle.kql_trial.proofs.log.log_table.Given as goal

abbrev pub invariant-loop-i : goal.invariant-loop-i
invariant-loop-i l = record {
  state : l.state ≡ state_after l.seed l.i;
  log : l.log ≡ log_table l.i l.seed;
}
