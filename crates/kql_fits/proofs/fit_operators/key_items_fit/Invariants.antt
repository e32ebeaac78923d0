use Rattle.std.proofs.Common.{◌≡◌, length}
use Rattle.std.specs.List.{list_all}
use Rattle.kql_meaning.specs.FittingOperators.{key_item_fits}
use Rattle.kql_fits.proofs.fit_operators.key_items_fit.Given as goal

abbrev pub invariant-items : goal.invariant-items
invariant-items l = list_all (key_item_fits l.columns) l.left ≡ list_all (key_item_fits l.fn.columns) l.fn.items

abbrev pub decreases-items : goal.decreases-items
decreases-items l = length l.left
