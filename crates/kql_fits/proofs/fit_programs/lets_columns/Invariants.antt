use Rattle.std.proofs.Common.{◌≡◌, take}
use Rattle.std.specs.Prelude.{Some}
use Rattle.kql_meaning.specs.Fits.{lets_columns}
use Rattle.kql_fits.proofs.fit_programs.lets_columns.Given as goal

abbrev pub invariant-loop-plan : goal.invariant-loop-plan
invariant-loop-plan l = lets_columns (take l.plan-index l.lets) l.tables ≡ Some l.all
