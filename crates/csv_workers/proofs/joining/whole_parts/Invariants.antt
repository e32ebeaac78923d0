use Rattle.std.proofs.Common.{◌≡◌}
use Rattle.std.specs.Prelude.{All}
use Rattle.csv_workers.specs.Slots.{IsWhole, parts_of}
use Rattle.csv_workers.proofs.joining.whole_parts.Given as goal

abbrev pub invariant-loop-slot : goal.invariant-loop-slot
invariant-loop-slot l = record { whole : All IsWhole l.yielded; parts : l.whole.items ≡ parts_of l.yielded }
