use Rattle.std.proofs.Common.{◌-◌, ◌≤◌, length}
use Rattle.csv_io.specs.Runs.{PassesBetween, is_unquoted}
use Rattle.csv_io.proofs.lanes.quote_end.Given as goal

abbrev pub invariant-by_load : goal.invariant-by_load
invariant-by_load l = (l.at ≤ l.end) × (l.end ≤ length l.text) × PassesBetween is_unquoted l.text l.at l.end

abbrev pub decreases-by_load : goal.decreases-by_load
decreases-by_load l = length l.text - l.end

abbrev pub invariant-loop-end : goal.invariant-loop-end
invariant-loop-end l = (l.at ≤ l.end) × (l.end ≤ length l.text) × PassesBetween is_unquoted l.text l.at l.end

abbrev pub decreases-loop-end : goal.decreases-loop-end
decreases-loop-end l = length l.text - l.end
