use Rattle.std.proofs.Common.{◌≡◌, replicate}
use Rattle.kql_cells.specs.Seen.{seen}
use Rattle.kql_values.proofs.vector.Vector.repeated.Given as goal

abbrev pub invariant-loop-i : goal.invariant-loop-i
invariant-loop-i l = l.vector ≡ replicate l._i (seen l.cell)
