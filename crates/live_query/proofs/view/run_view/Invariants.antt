use Rattle.live_query.proofs.view.run_view.Given as goal

abbrev pub ghosts-run_kept : goal.ghosts-run_kept
ghosts-run_kept g a = record { opening = a.opening; batches = a.batches.now }
