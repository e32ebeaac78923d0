use Rattle.std.proofs.Common.{◌≡◌, map, take}
use Rattle.kql_cells.specs.Seen.{seen}
use Rattle.kql_values.specs.Grids.{row_of}
use Rattle.summarize_pieces.proofs.folds.cells_at.Given as goal

abbrev pub invariant-loop-vector : goal.invariant-loop-vector
invariant-loop-vector l = map seen l.cells.items ≡ row_of (take l.vector-index l.vectors) l.g
