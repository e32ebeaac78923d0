use Rattle.std.proofs.Common.{◌≡◌, ◌++◌, take}
use Rattle.csv.specs.Writing.{default_writer, escaped}
use Rattle.csv_io.proofs.output.push_quoted.Given as goal

abbrev pub invariant-loop-i : goal.invariant-loop-i
invariant-loop-i l = l.out.items ≡ l.initial.out.items ++ escaped default_writer (take l.i l.field)
