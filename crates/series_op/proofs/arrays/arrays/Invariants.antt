use Rattle.std.proofs.Common.{◌≡◌, take}
use Rattle.kql_cells.specs.Seen.{seen}
use Rattle.series_op.specs.Arrays.{arrays_over}
use Rattle.series_op.proofs.arrays.arrays.Given as goal

-- the arrays of the groups so far
abbrev pub invariant-groups : goal.invariant-groups
invariant-groups l = l.made ≡ arrays_over l.column (seen l.default) (take l.g l.groups) l.places l.count
