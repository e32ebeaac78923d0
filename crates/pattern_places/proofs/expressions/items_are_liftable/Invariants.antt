use Rattle.std.proofs.Common.{◌≡◌, length}
use Rattle.std.specs.List.{list_all}
use Rattle.pattern_laws.specs.Liftable.{item_is_liftable}
use Rattle.pattern_places.proofs.expressions.items_are_liftable.Given as goal

abbrev pub invariant-items : goal.invariant-items
invariant-items l = list_all (item_is_liftable l.marks l.lent) l.left ≡ list_all (item_is_liftable l.fn.marks l.fn.lent) l.fn.items

abbrev pub decreases-items : goal.decreases-items
decreases-items l = length l.left
