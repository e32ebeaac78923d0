use Rattle.std.proofs.Common.{◌≡◌, [], length}
use Rattle.std.specs.List.{list_all}
use Rattle.kql_bound.specs.declared.parts.BItem.{BItem}
use Rattle.pattern_lift.specs.Calls.{calls_are_lent}
use Rattle.pattern_places.proofs.expressions.items_have_no_calls.Given as goal

abbrev pub invariant-items : goal.invariant-items
invariant-items l = list_all (λ (b : BItem). calls_are_lent [] b.expr) l.left ≡ list_all (λ (b : BItem). calls_are_lent [] b.expr) l.fn.items

abbrev pub decreases-items : goal.decreases-items
decreases-items l = length l.left
