use Rattle.std.proofs.Common.{◌≡◌}
use Rattle.summarize_op.specs.Picks.{chosen_over}
use Rattle.summarize_op.proofs.picks.chosen_places.Given as goal

-- the places that the folds so far chose
abbrev pub invariant-groups : goal.invariant-groups
invariant-groups l = l.places ≡ chosen_over l.fn._call l._columns l._numbers l.fold-index
