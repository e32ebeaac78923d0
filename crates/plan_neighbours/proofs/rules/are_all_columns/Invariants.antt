use Rattle.std.proofs.Common.{◌≡◌, length}
use Rattle.plan_rules.specs.Rules.{are_all_columns}
use Rattle.plan_neighbours.proofs.rules.are_all_columns.Given as goal

abbrev pub invariant-items : goal.invariant-items
invariant-items l = are_all_columns l.items_left l.columns_left ≡ are_all_columns l.fn.items l.fn.columns

abbrev pub decreases-items : goal.decreases-items
decreases-items l = length l.items_left
