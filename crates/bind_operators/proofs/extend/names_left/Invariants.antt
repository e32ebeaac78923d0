use Rattle.std.proofs.Common.{◌≡◌, take}
use Rattle.bind_operators.specs.Extend.{names_left}
use Rattle.bind_operators.proofs.extend.names_left.Given as goal

abbrev pub invariant-loop-n : goal.invariant-loop-n
invariant-loop-n l = l.kept ≡ names_left l.set (take l.n-index l.names)
