use Rattle.std.proofs.Common.{◌≡◌, map, take}
use Rattle.bind_query.specs.Union.{columns_behind}
use Rattle.bind_query.proofs.union.columns_behind.Given as goal

abbrev pub invariant-loop-p : goal.invariant-loop-p
invariant-loop-p l = l.all ≡ map columns_behind (take l.p-index l.others)
