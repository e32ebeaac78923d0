use Rattle.csv.specs.Records.{fields_of}
use Rattle.csv_io.specs.RecordsLeft.{Gives, records_left}
use Rattle.kql_proposal.proofs.RecordFacts.{answer-same, plain-read}
use Rattle.kql_proposal.proofs.rows.next.Goals as goal

pub returns-clause-plain : goal.returns-clause-plain
returns-clause-plain c =
    let e = c.read_byte_record.ensures in
    let r = plain-read c.args.rdr.now c.read_byte_record.new.self c.read_byte_record.result (fields_of c.read_byte_record.new.row) c.requires
    e.failed e.goes e.flexible e.ready e.reads e.fails e.why in
    r.0

pub returns-clause-given : goal.returns-clause-given
returns-clause-given c =
    let e = c.read_byte_record.ensures in
    let r = plain-read c.args.rdr.now c.read_byte_record.new.self c.read_byte_record.result (fields_of c.read_byte_record.new.row) c.requires
    e.failed e.goes e.flexible e.ready e.reads e.fails e.why in
    answer-same c.read_byte_record.result c.answered.result (λ found. Gives found (records_left c.args.rdr.now) (fields_of c.read_byte_record.new.row) (records_left c.read_byte_record.new.self)) c.answered.ensures r.1
