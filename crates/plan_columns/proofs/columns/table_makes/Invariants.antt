use Rattle.std.proofs.Common.{◌≡◌, length}
use Rattle.kql_meaning.specs.Fits.{table_columns}
use Rattle.plan_columns.proofs.columns.table_makes.Given as goal

abbrev pub invariant-tables : goal.invariant-tables
invariant-tables l = table_columns l.left l.name ≡ table_columns l.fn.tables l.fn.name

abbrev pub decreases-tables : goal.decreases-tables
decreases-tables l = length l.left
