use Rattle.std.proofs.Common.{◌≡◌, take}
use Rattle.pattern_lift.specs.Derived.{added_columns}
use Rattle.pattern_lift.proofs.tables.added_columns.Given as goal

abbrev pub invariant-loop-call : goal.invariant-loop-call
invariant-loop-call l = l.all ≡ added_columns l.marks (take l.call-index l.calls)
