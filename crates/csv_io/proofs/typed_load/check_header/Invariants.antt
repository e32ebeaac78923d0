use Rattle.std.proofs.Common.{◌≡◌, ◌+◌, drop}
use Rattle.csv_io.specs.TypedLoad.{differences}
use Rattle.csv_io.proofs.typed_load.check_header.Given as goal

abbrev pub invariant-loop-j : goal.invariant-loop-j
invariant-loop-j l = differences (l.j + 1) (drop l.j l.columns) (drop l.j l.line) ≡ differences 1 l.columns l.line
