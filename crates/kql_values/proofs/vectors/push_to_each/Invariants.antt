use Rattle.std.proofs.Common.{◌≡◌, take, map}
use Rattle.kql_values.specs.Grids.{joined, singletons}
use Rattle.kql_cells.specs.Seen.{seen}
use Rattle.kql_values.proofs.vectors.push_to_each.Given as goal

abbrev pub invariant-loop-j : goal.invariant-loop-j
invariant-loop-j l = l.columns.items ≡ joined l.initial.columns.items (singletons (map seen (take l.j l.row)))
