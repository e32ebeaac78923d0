use Rattle.std.proofs.Common.{◌≡◌, ◌++◌, map}
use Rattle.kql_cells.specs.Seen.{seen}
use Rattle.kql_meaning.specs.Tables.{places_below}
use Rattle.table_ops.proofs.DownFacts.{converted_part}
use Rattle.table_ops.proofs.down.push_parts.Given as goal

-- the parts so far
abbrev pub invariant-loop-k : goal.invariant-loop-k
invariant-loop-k l = l.out ≡ l.initial.out ++ map (converted_part l.array l.to (seen l.cell)) (places_below l.k)
