use Rattle.std.proofs.Common.{◌≡◌, take}
use Rattle.kql_meaning.specs.Tables.{names_of}
use Rattle.kql_columns.proofs.columns.names_of.Given as goal

abbrev pub invariant-loop-column : goal.invariant-loop-column
invariant-loop-column l = l.names ≡ names_of (take l.column-index l.columns)
