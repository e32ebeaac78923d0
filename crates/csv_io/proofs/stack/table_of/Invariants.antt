use Rattle.std.proofs.Common.{◌≡◌}
use Rattle.csv_io.proofs.stack.table_of.Given as goal

abbrev pub invariant-loop-part : goal.invariant-loop-part
invariant-loop-part l = l.columns.items ≡ l.yielded
