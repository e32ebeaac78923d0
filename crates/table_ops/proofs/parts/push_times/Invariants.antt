use Rattle.std.proofs.Common.{◌≡◌, ◌++◌, replicate}
use Rattle.table_ops.proofs.parts.push_times.Given as goal

-- the places that were there, and so many more
abbrev pub invariant-loop-k : goal.invariant-loop-k
invariant-loop-k l = l.places ≡ l.initial.places ++ replicate l._k l.i
