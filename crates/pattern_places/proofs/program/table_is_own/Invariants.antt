use Rattle.std.proofs.Common.{◌≡◌, length}
use Rattle.kql_meaning.specs.Fits.{table_columns}
use Rattle.pattern_laws.specs.Tested.{own_if}
use Rattle.pattern_places.proofs.program.table_is_own.Given as goal

abbrev pub invariant-tables : goal.invariant-tables
invariant-tables l = own_if l.marks (table_columns l.left l.name) ≡ own_if l.fn.marks (table_columns l.fn.tables l.fn.name)

abbrev pub decreases-tables : goal.decreases-tables
decreases-tables l = length l.left
