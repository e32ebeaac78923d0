use Rattle.std.proofs.Common.{◌≡◌, take}
use Rattle.table_ops.specs.Parts.{most_parts}
use Rattle.table_ops.proofs.parts.most_parts.Given as goal

-- the most of the columns so far
abbrev pub invariant-loop-column : goal.invariant-loop-column
invariant-loop-column l = l.most ≡ most_parts (take l.column-index l.columns) l.i
