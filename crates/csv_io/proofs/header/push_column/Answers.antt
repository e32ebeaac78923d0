use Rattle.csv_io.proofs.HeaderFacts.{absent-of}
use Rattle.csv_io.proofs.header.push_column.Goals as goal

pub push-requires : goal.push-requires
push-requires c = absent-of c.args.schema.now c.args.field.now c.in_ok-column.column c.in_ok-column.ensures.0 c.in_ok-column.ensures.1
