use Rattle.std.proofs.Common.{◌≡◌, ◌++◌, length}
use Rattle.kql_meaning.specs.Parse.{pattern_columns}
use Rattle.kql_columns.proofs.columns.pattern_columns.Given as goal

abbrev pub invariant-items : goal.invariant-items
invariant-items l = l.made ++ pattern_columns l.left ≡ pattern_columns l.fn.pattern

abbrev pub decreases-items : goal.decreases-items
decreases-items l = length l.left
