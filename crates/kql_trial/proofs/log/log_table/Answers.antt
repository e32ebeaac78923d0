use Rattle.kql_trial.proofs.LogFacts.{log-first, state-first}
use Rattle.kql_trial.proofs.log.log_table.Goals as goal

pub loop-i-init : goal.loop-i-init
loop-i-init c = record {
  state = state-first c.args.seed;
  log = log-first c.args.seed c.in_ok-schema.schema c.in_ok-log.log c.in_ok-schema.ensures.columns c.in_ok-log.ensures.parts;
}
