use Rattle.summarize_pieces.proofs.KeptSteps.{Grouping}
use Rattle.summarize_pieces.proofs.kept.group_folds.Given as goal

-- the groups so far, and the folds that are left
abbrev pub invariant-groups : goal.invariant-groups
invariant-groups l = Grouping l.call l.numbers l.count l.g l.kept l.left
