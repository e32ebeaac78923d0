use Rattle.std.proofs.Common.{◌≡◌, length}
use Rattle.std.specs.List.{list_all}
use Rattle.kql_meaning.specs.Tables.{has_column}
use Rattle.kql_columns.proofs.columns.all_have.Given as goal

abbrev pub invariant-tables : goal.invariant-tables
invariant-tables l = list_all (has_column l.name) l.left ≡ list_all (has_column l.fn.name) l.fn.tables

abbrev pub decreases-tables : goal.decreases-tables
decreases-tables l = length l.left
