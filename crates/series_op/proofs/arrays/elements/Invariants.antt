use Rattle.std.proofs.Common.{◌≡◌, map, take}
use Rattle.kql_scalar_fns.specs.Dynamic.{element}
use Rattle.series_op.proofs.arrays.elements.Given as goal

-- the elements so far
abbrev pub invariant-cells : goal.invariant-cells
invariant-cells l = l.parts ≡ map element (take l.i l.cells)
