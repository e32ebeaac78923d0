use Rattle.csv.specs.Records.{fields_of}
use Rattle.json_losses.specs.Losses.{row_losses}
use Rattle.json_losses.specs.RecordsLeft.{records_left}
use Rattle.json_losses.proofs.LossFacts.{record-end}
use Rattle.json_losses.proofs.rows.rows_losses.Goals as goal

pub returns : goal.returns
returns c =
    let none = rw c.if-branch.false at c.in_ok-next_record.ensures.given in
    record { count = record-end (row_losses c.args.columns.now) (records_left c.records.rdr) (records_left c.next_record.new.rdr) (fields_of c.next_record.new.row) c.records.count _ none c.records.invariant.fits c.records.invariant.left }
