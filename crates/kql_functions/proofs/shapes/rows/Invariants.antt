use Rattle.std.proofs.Common.{◌≡◌, length, map}
use Rattle.kql_functions.specs.Kinds.{read_row, rows}
use Rattle.kql_functions.proofs.shapes.rows.Given as goal

abbrev pub invariant-rows : goal.invariant-rows
invariant-rows l = rows l.kinds (map read_row l.left) ≡ rows l.fn.kinds (map read_row l.fn.table)

abbrev pub decreases-rows : goal.decreases-rows
decreases-rows l = length l.left
