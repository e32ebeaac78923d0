use Rattle.std.proofs.Common.{◌≡◌, ◌+◌, length}
use Rattle.std.specs.List.{sum_by}
use Rattle.json_losses.specs.Losses.{held, row_losses}
use Rattle.json_losses.specs.RecordsLeft.{IsPlain, records_left}
use Rattle.json_losses.proofs.rows.rows_losses.Given as goal

abbrev pub invariant-records : goal.invariant-records
invariant-records l = record {
  plain : IsPlain l.rdr;
  fits : l.count ≡ held l.count;
  left : held (l.count + sum_by (row_losses l.columns) (records_left l.rdr)) ≡ held (sum_by (row_losses l.columns) (records_left l.fn.rdr));
}

abbrev pub decreases-records : goal.decreases-records
decreases-records l = length (records_left l.rdr)
