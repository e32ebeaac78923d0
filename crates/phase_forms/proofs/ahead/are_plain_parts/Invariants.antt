use Rattle.std.proofs.Common.{◌≡◌, length}
use Rattle.kql_meaning.specs.RowByRow.{are_plain_parts}
use Rattle.phase_forms.proofs.ahead.are_plain_parts.Given as goal

abbrev pub invariant-items : goal.invariant-items
invariant-items l = are_plain_parts l.left ≡ are_plain_parts l.fn.items

abbrev pub decreases-items : goal.decreases-items
decreases-items l = length l.left
