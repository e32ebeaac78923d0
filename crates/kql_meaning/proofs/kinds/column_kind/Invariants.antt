use Rattle.std.proofs.Common.{◌≡◌, length}
use Rattle.kql_meaning.specs.Expressions.{column_kind}
use Rattle.kql_meaning.proofs.kinds.column_kind.Given as goal

abbrev pub invariant-columns : goal.invariant-columns
invariant-columns l = column_kind l.name l.left ≡ column_kind l.fn.name l.fn.columns

abbrev pub decreases-columns : goal.decreases-columns
decreases-columns l = length l.left
