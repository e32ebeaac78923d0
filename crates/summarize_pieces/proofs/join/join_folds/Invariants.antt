use Rattle.summarize_pieces.proofs.JoinSteps.{Joining}
use Rattle.summarize_pieces.proofs.join.join_folds.Given as goal

-- what is joined so far, and what is left
abbrev pub invariant-groups : goal.invariant-groups
invariant-groups l = Joining l.first l.fn.folds l.numbers l.fn.more l.count l.further l.g-index l.made.items l.left
