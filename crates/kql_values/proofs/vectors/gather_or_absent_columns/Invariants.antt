use Rattle.std.proofs.Common.{◌≡◌, take}
use Rattle.kql_values.specs.Grids.{or_absent}
use Rattle.kql_values.proofs.vectors.gather_or_absent_columns.Given as goal

abbrev pub invariant-loop-j : goal.invariant-loop-j
invariant-loop-j l = l.gathered.items ≡ or_absent (take l.j l.schema) (take l.j l.columns.items) l.places
