use Rattle.std.proofs.Common.{◌≡◌, length}
use Rattle.kql_meaning.specs.Tables.{names_of}
use Rattle.plan_terms.specs.Renames.{own_in}
use Rattle.plan_terms.proofs.rights.own_in.Given as goal

abbrev pub invariant-columns : goal.invariant-columns
invariant-columns l = own_in (names_of l.fn.columns) l.fn.right l.fn.name ≡ own_in (names_of l.taken) l.left l.name

abbrev pub decreases-columns : goal.decreases-columns
decreases-columns l = length l.left
