use Rattle.std.proofs.Common.{◌≡◌}
use Rattle.csv_workers.specs.Slots.{parts_of}
use Rattle.csv_workers.proofs.joining.slots_of.Given as goal

abbrev pub invariant-loop-column : goal.invariant-loop-column
invariant-loop-column l = parts_of l.slots.items ≡ l.yielded
