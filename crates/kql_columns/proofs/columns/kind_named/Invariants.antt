use Rattle.std.proofs.Common.{◌≡◌, length}
use Rattle.kql_meaning.specs.MvExpand.{kind_named}
use Rattle.kql_columns.proofs.columns.kind_named.Given as goal

abbrev pub invariant-items : goal.invariant-items
invariant-items l = kind_named l.left l.name ≡ kind_named l.fn.items l.fn.name

abbrev pub decreases-items : goal.decreases-items
decreases-items l = length l.left
