use Rattle.std.proofs.Common.{◌∙◌, sym}
use Rattle.csv.specs.Records.{fields_of}
use Rattle.json_losses.specs.RecordsLeft.{records_left}
use Rattle.json_losses.proofs.LossFacts.{file-none, file-plain, file-rows}
use Rattle.json_losses.proofs.rows.count_losses.Goals as goal

pub returns-then-not-branch : goal.returns-then-not-branch
returns-then-not-branch c =
    let none = rw c.if-not-branch.true at c.in_ok-next_record.ensures.given in
    record { count = file-none c.args.bytes.now (records_left c.reader_of-rdr.result) (records_left c.next_record.new.rdr) (fields_of c.next_record.new.row) c.reader_of-rdr.ensures.all none }

pub returns-then-not-has_dynamic : goal.returns-then-not-has_dynamic
returns-then-not-has_dynamic c =
    let first = rw c.if-not-branch.false at c.in_ok-next_record.ensures.given in
    let none = rw c.as_slice.ensures.value at (sym c.has_dynamic.ensures ∙ c.if-not-has_dynamic.true) in
    record { count = file-plain c.args.bytes.now (records_left c.reader_of-rdr.result) (records_left c.next_record.new.rdr) (fields_of c.next_record.new.row) c.in_ok-columns.columns.items c.reader_of-rdr.ensures.all first c.in_ok-columns.ensures.columns none }

pub returns : goal.returns
returns c =
    let first = rw c.if-not-branch.false at c.in_ok-next_record.ensures.given in
    let same = file-rows c.args.bytes.now (records_left c.reader_of-rdr.result) (records_left c.next_record.new.rdr) (fields_of c.next_record.new.row) c.in_ok-columns.columns.items c.reader_of-rdr.ensures.all first c.in_ok-columns.ensures.columns in
    record { count = rw (c.as_slice-2.ensures.value, same) at c.rows_losses.ensures.count }
