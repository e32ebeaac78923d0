use Rattle.std.proofs.Common.{◌≡◌, length}
use Rattle.plan_rules.specs.Rules.{item_expr}
use Rattle.plan_neighbours.proofs.inner.item_expr.Given as goal

abbrev pub invariant-items : goal.invariant-items
invariant-items l = item_expr l.left l.name ≡ item_expr l.fn.items l.fn.name

abbrev pub decreases-items : goal.decreases-items
decreases-items l = length l.left
