use Rattle.std.proofs.Common.{◌≡◌}
use Rattle.table_ops.specs.Parts.{parts_below}
use Rattle.table_ops.proofs.down.parts_down.Given as goal

-- the parts so far
abbrev pub invariant-loop-i : goal.invariant-loop-i
invariant-loop-i l = l.out ≡ parts_below l.array l.to l.values l.counts l.i
