use Rattle.std.proofs.Common.{◌≡◌, length}
use Rattle.kql_values.specs.Grids.{joined}
use Rattle.csv_io.proofs.stack.push_to_each.Given as goal

abbrev pub invariant-loop-vector : goal.invariant-loop-vector
invariant-loop-vector l = record { at : l.j ≡ length l.yielded; added : l.parts.items ≡ joined l.initial.parts.items l.yielded }
