use Rattle.std.proofs.Common.{◌≡◌, map, take}
use Rattle.kql_cells.specs.Seen.{seen}
use Rattle.scan_ops.proofs.emit.cells_of.Given as goal

-- the cells of the values so far
abbrev pub invariant-loop-value : goal.invariant-loop-value
invariant-loop-value l = map seen l.cells.items ≡ take l.value-index l.line
