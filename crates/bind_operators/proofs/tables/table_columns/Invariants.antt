use Rattle.std.proofs.Common.{◌≡◌, length}
use Rattle.kql_meaning.specs.Fits.{table_columns}
use Rattle.bind_operators.proofs.tables.table_columns.Given as goal

abbrev pub invariant-each : goal.invariant-each
invariant-each l = table_columns l.left l.name ≡ table_columns l.fn.tables l.fn.name

abbrev pub decreases-each : goal.decreases-each
decreases-each l = length l.left
