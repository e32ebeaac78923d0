use Rattle.std.proofs.Common.{◌≤◌, ◌-◌}
use Rattle.pattern_workers.proofs.answers.ranges_of.Given as goal

abbrev pub invariant-ranges-2 : goal.invariant-ranges-2
invariant-ranges-2 l = record { within : l.from ≤ l.count }

abbrev pub decreases-ranges-2 : goal.decreases-ranges-2
decreases-ranges-2 l = l.count - l.from
