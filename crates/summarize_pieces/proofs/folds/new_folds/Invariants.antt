use Rattle.std.proofs.Common.{◌≡◌, [], map}
use Rattle.std.specs.List.{range_with_len}
use Rattle.agg_folds.specs.States.{fold_of}
use Rattle.summarize_pieces.proofs.folds.new_folds.Given as goal

abbrev pub invariant-loop-g : goal.invariant-loop-g
invariant-loop-g l = l.folds.items ≡ map (λ g. fold_of l.call []) (range_with_len 0 l.g)
