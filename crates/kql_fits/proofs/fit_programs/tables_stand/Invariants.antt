use Rattle.std.proofs.Common.{◌≡◌, length}
use Rattle.kql_meaning.specs.Fits.{tables_stand}
use Rattle.kql_fits.proofs.fit_programs.tables_stand.Given as goal

abbrev pub invariant-tables : goal.invariant-tables
invariant-tables l = tables_stand l.left l.schemas ≡ tables_stand l.fn.tables l.fn.schemas

abbrev pub decreases-tables : goal.decreases-tables
decreases-tables l = length l.left
