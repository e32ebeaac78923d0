use Rattle.std.specs.Prelude.{[], replicate}
use Rattle.live_run_tests.proofs.asks.run_tally.Given as goal

abbrev pub ghosts-run_value : goal.ghosts-run_value
ghosts-run_value g a = record { opening = record { columns = []; lines = replicate a.first.rows [] }; batches = a.batches.now }
