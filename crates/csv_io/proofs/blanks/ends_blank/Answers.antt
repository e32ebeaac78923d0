use Rattle.csv_io.proofs.BlankFacts.{few-blank}
use Rattle.csv_io.proofs.blanks.ends_blank.Goals as goal

pub returns-in-empty : goal.returns-in-empty
returns-in-empty c = few-blank c.args.text.now c.as_bytes.result.now c.as_bytes.ensures.value c.in-empty.len_below
