use Rattle.std.proofs.Common.{◌-◌, length}
use Rattle.csv_io.specs.Runs.{IsAhead}
use Rattle.csv_io.proofs.CutFacts.{Goes}
use Rattle.csv_io.proofs.cut.cut_record.Given as goal

abbrev pub invariant-fields : goal.invariant-fields
invariant-fields l = IsAhead l.text l.at l.ahead.bits l.ahead.left × Goes l.text l.start l.fields.items l.at

abbrev pub decreases-fields : goal.decreases-fields
decreases-fields l = length l.text - l.at
