use Rattle.std.proofs.Common.{take}
use Rattle.parse_op.specs.Search.{AreFresh}
use Rattle.parse_op.proofs.whole.forget.Given as goal

-- the slots so far are fresh
abbrev pub invariant-slots : goal.invariant-slots
invariant-slots l = AreFresh l.size (take l.k l.slots)
