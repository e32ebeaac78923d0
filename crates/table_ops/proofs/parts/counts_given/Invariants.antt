use Rattle.std.proofs.Common.{◌≡◌, map}
use Rattle.kql_meaning.specs.Tables.{places_below}
use Rattle.table_ops.specs.Parts.{most_parts}
use Rattle.table_ops.proofs.parts.counts_given.Given as goal

-- the counts so far
abbrev pub invariant-loop-i : goal.invariant-loop-i
invariant-loop-i l = l.counts ≡ map (most_parts l.columns) (places_below l.i)
