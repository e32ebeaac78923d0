use Rattle.std.proofs.Common.{◌≡◌, take}
use Rattle.kql_meaning.specs.FittingOperators.{expand_names}
use Rattle.plan_swaps.proofs.swapping.expand_names.Given as goal

abbrev pub invariant-loop-item : goal.invariant-loop-item
invariant-loop-item l = l.names ≡ expand_names (take l.item-index l.items)
