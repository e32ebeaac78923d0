use Rattle.std.proofs.Common.{◌≡◌, length}
use Rattle.kql_meaning.specs.Fits.{same_columns}
use Rattle.kql_fits.proofs.fit_programs.same_columns.Given as goal

abbrev pub invariant-columns : goal.invariant-columns
invariant-columns l = same_columns l.left l.right ≡ same_columns l.fn.columns l.fn.others

abbrev pub decreases-columns : goal.decreases-columns
decreases-columns l = length l.left
