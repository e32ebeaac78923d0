use Rattle.std.proofs.Common.{◌≡◌, take}
use Rattle.pattern_lift.specs.Lifted.{names_of_columns}
use Rattle.pattern_lift.proofs.plans.names_of_columns.Given as goal

abbrev pub invariant-loop-column : goal.invariant-loop-column
invariant-loop-column l = l.all ≡ names_of_columns (take l.column-index l.columns)
