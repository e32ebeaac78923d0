use Rattle.std.proofs.Common.{◌≡◌, take}
use Rattle.kql_meaning.specs.MvExpand.{replaced_columns}
use Rattle.kql_columns.proofs.columns.replaced_columns.Given as goal

abbrev pub invariant-loop-column : goal.invariant-loop-column
invariant-loop-column l = l.made ≡ replaced_columns l.expand (take l.column-index l.columns)
