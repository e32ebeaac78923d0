use Rattle.live_run.proofs.run.run_live.Given as goal

abbrev pub ghosts-run_value : goal.ghosts-run_value
ghosts-run_value g a = record { opening = a.first; batches = a.batches.now }
