use Rattle.std.proofs.Common.{◌≡◌}
use Rattle.csv_io.proofs.stack.parts_of.Given as goal

abbrev pub invariant-loop-column : goal.invariant-loop-column
invariant-loop-column l = l.parts.items ≡ l.yielded
