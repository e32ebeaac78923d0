use Rattle.std.proofs.Common.{◌∙◌}
use Rattle.csv_io.proofs.TextFacts.{text-at}
use Rattle.csv_io.proofs.fields.field.Goals as goal

pub from_utf8_unchecked-requires : goal.from_utf8_unchecked-requires
from_utf8_unchecked-requires c = rw c.bytes.ensures (text-at c.args.line.now c.args.j c.requires.text c.requires.within)

pub returns : goal.returns
returns c = c.from_utf8_unchecked.ensures ∙ c.bytes.ensures
