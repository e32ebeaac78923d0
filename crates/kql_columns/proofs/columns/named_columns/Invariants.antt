use Rattle.std.proofs.Common.{◌≡◌, ◌++◌, length}
use Rattle.kql_meaning.specs.Items.{named_columns}
use Rattle.kql_columns.proofs.columns.named_columns.Given as goal

abbrev pub invariant-names : goal.invariant-names
invariant-names l = l.made ++ named_columns l.left l.others ≡ named_columns l.fn.names l.fn.kinds

abbrev pub decreases-names : goal.decreases-names
decreases-names l = length l.left
