use Rattle.std.proofs.Common.{◌≡◌, length}
use Rattle.kql_values.specs.Grids.{joined}
use Rattle.kql_values.proofs.vectors.append_to_each.Given as goal

abbrev pub invariant-loop-vector : goal.invariant-loop-vector
invariant-loop-vector l = record { at : l.j ≡ length l.yielded; added : l.columns.items ≡ joined l.initial.columns.items l.yielded }
