use Rattle.std.proofs.Common.{◌≡◌, length}
use Rattle.kql_meaning.specs.RowByRow.{are_plain}
use Rattle.plan_terms.proofs.plain.are_plain.Given as goal

abbrev pub invariant-items : goal.invariant-items
invariant-items l = are_plain l.left ≡ are_plain l.fn.items

abbrev pub decreases-items : goal.decreases-items
decreases-items l = length l.left
