use Rattle.std.proofs.Common.{◌-◌, ◌≤◌, length}
use Rattle.csv_io.specs.Runs.{PassesBetween, is_clear}
use Rattle.csv_io.proofs.output.calls_for_quotes.Given as goal

abbrev pub invariant-by_load : goal.invariant-by_load
invariant-by_load l = (l.at ≤ length l.field) × PassesBetween is_clear l.field 0 l.at

abbrev pub decreases-by_load : goal.decreases-by_load
decreases-by_load l = length l.field - l.at

abbrev pub invariant-loop-at : goal.invariant-loop-at
invariant-loop-at l = (l.at ≤ length l.field) × PassesBetween is_clear l.field 0 l.at

abbrev pub decreases-loop-at : goal.decreases-loop-at
decreases-loop-at l = length l.field - l.at
