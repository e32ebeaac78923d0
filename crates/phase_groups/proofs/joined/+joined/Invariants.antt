use Rattle.phase_groups.proofs.joined.+joined.Given as goal

abbrev pub decreases-joined : goal.decreases-joined
decreases-joined l = l.count
