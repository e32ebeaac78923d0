use Rattle.std.proofs.Common.{[], sym}
use Rattle.std.proofs.lemmas.List.{length-replicate}
use Rattle.live_run_tests.proofs.asks.run_tally.Goals as goal

pub run_value-requires-clause-stands : goal.run_value-requires-clause-stands
run_value-requires-clause-stands g c κs within = sym (length-replicate c.of-first.result.rows [])
