use Rattle.std.proofs.Common.{◌≡◌, take}
use Rattle.agg_folds.specs.Kept.{joined_set}
use Rattle.agg_folds.proofs.lists.insert_all.Given as goal

abbrev pub invariant-loop-value : goal.invariant-loop-value
invariant-loop-value l = l.set ≡ joined_set l.limit l.fn.set (take l.value-index l.more)
