use Rattle.std.proofs.Common.{◌≡◌, ◌+◌, length}
use Rattle.kql_meaning.specs.Join.{first_free}
use Rattle.kql_meaning.specs.Tables.{names_of}
use Rattle.kql_columns.proofs.ColumnSteps.{free_from}
use Rattle.kql_columns.proofs.columns.first_free.Given as goal

abbrev pub invariant-numbers : goal.invariant-numbers
invariant-numbers l = (free_from (names_of l.taken) l.name l.number l.left ≡ first_free (names_of l.taken) l.name) × (l.number + l.left ≡ length l.taken + 2)

abbrev pub decreases-numbers : goal.decreases-numbers
decreases-numbers l = l.left
