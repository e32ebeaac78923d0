use Rattle.std.proofs.Common.{◌≡◌, take}
use Rattle.agg_folds.specs.Kept.{joined_list}
use Rattle.agg_folds.proofs.lists.push_all.Given as goal

abbrev pub invariant-loop-value : goal.invariant-loop-value
invariant-loop-value l = l.list ≡ joined_list l.limit l.fn.list (take l.value-index l.more)
