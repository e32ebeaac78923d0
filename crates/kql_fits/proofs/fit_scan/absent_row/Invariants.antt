use Rattle.std.proofs.Common.{◌≡◌, take}
use Rattle.kql_meaning.specs.Tables.{absent_row}
use Rattle.kql_fits.proofs.fit_scan.absent_row.Given as goal

abbrev pub invariant-loop-column : goal.invariant-loop-column
invariant-loop-column l = l.values ≡ absent_row (take l.column-index l.columns)
