use Rattle.std.proofs.Common.{◌≡◌, length}
use Rattle.phase_forms.specs.Phases.{are_columns}
use Rattle.phase_forms.proofs.ahead.are_columns.Given as goal

abbrev pub invariant-items : goal.invariant-items
invariant-items l = are_columns l.left ≡ are_columns l.fn.items

abbrev pub decreases-items : goal.decreases-items
decreases-items l = length l.left
