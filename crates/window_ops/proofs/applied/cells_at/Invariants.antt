use Rattle.std.proofs.Common.{◌≡◌, map, take}
use Rattle.kql_cells.specs.Seen.{seen}
use Rattle.kql_values.specs.Grids.{row_of}
use Rattle.window_ops.proofs.applied.cells_at.Given as goal

-- the cells so far
abbrev pub invariant-columns : goal.invariant-columns
invariant-columns l = map seen l.cells.items ≡ row_of (take l.column-index l.columns) l.i
