use Rattle.std.proofs.Common.{◌≡◌, take}
use Rattle.pattern_lift.specs.Prefixes.{names_set}
use Rattle.pattern_lift.proofs.prefixes.names_set.Given as goal

abbrev pub invariant-loop-item : goal.invariant-loop-item
invariant-loop-item l = l.all ≡ names_set (take l.item-index l.items)
