use Rattle.std.proofs.Common.{◌≡◌, length}
use Rattle.parse_op.proofs.whole.slots_of.Given as goal

-- a slot for each so far
abbrev pub invariant-each : goal.invariant-each
invariant-each l = length l.slots.items ≡ l._k
