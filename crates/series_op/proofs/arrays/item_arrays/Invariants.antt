use Rattle.std.proofs.Common.{◌≡◌, take}
use Rattle.series_op.specs.Arrays.{all_arrays}
use Rattle.series_op.proofs.arrays.item_arrays.Given as goal

-- the arrays of the items so far
abbrev pub invariant-items : goal.invariant-items
invariant-items l = l.vectors.items ≡ all_arrays (take l.i l.columns) (take l.i l.items) l.groups l.places l.count
