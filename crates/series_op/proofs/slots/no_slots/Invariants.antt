use Rattle.std.proofs.Common.{◌≡◌}
use Rattle.std.specs.Prelude.{None, replicate}
use Rattle.series_op.proofs.slots.no_slots.Given as goal

abbrev pub invariant-loop-k : goal.invariant-loop-k
invariant-loop-k l = l.slots.items ≡ replicate l.k None
