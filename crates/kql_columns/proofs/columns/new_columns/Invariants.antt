use Rattle.std.proofs.Common.{◌≡◌, ◌++◌, length}
use Rattle.kql_meaning.specs.MvExpand.{new_columns}
use Rattle.kql_columns.proofs.columns.new_columns.Given as goal

abbrev pub invariant-items : goal.invariant-items
invariant-items l = l.made ++ new_columns l.left l.columns ≡ new_columns l.fn.items l.columns

abbrev pub decreases-items : goal.decreases-items
decreases-items l = length l.left
