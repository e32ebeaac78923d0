use Rattle.std.proofs.Common.{◌≡◌, take}
use Rattle.bind_groups.specs.Names.{written}
use Rattle.bind_groups.proofs.names.all_written.Given as goal

abbrev pub invariant-loop-n : goal.invariant-loop-n
invariant-loop-n l = l.all ≡ written (take l.n-index l.names)
