use Rattle.std.proofs.Common.{◌≡◌, ◌+◌, drop}
use Rattle.csv.specs.Records.{fields_of}
use Rattle.json_losses.specs.Losses.{held, row_losses}
use Rattle.json_losses.proofs.rows.row_losses.Given as goal

abbrev pub invariant-fields : goal.invariant-fields
invariant-fields l = record {
  fits : l.count ≡ held l.count;
  left : held (l.count + row_losses (drop l.j l.columns) (drop l.j (fields_of l.row))) ≡ held (row_losses l.columns (fields_of l.row));
}
