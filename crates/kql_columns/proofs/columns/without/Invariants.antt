use Rattle.std.proofs.Common.{◌≡◌, take}
use Rattle.kql_meaning.specs.Items.{without}
use Rattle.kql_columns.proofs.columns.without.Given as goal

abbrev pub invariant-loop-column : goal.invariant-loop-column
invariant-loop-column l = l.kept ≡ without l.names (take l.column-index l.columns)
