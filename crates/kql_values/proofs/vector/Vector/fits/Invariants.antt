use Rattle.std.proofs.Common.{take}
use Rattle.std.specs.Prelude.{All}
use Rattle.kql_cells.specs.Table.{CellFits}
use Rattle.kql_values.proofs.vector.Vector.fits.Given as goal

abbrev pub invariant-loop-i : goal.invariant-loop-i
invariant-loop-i l = All (CellFits l.column) (take l.i l.self)
