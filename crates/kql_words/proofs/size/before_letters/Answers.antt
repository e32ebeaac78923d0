use Rattle.kql_words.proofs.SizeFacts.{front-of}
use Rattle.kql_words.proofs.size.before_letters.Goals as goal

pub returns : goal.returns
returns c = record { before = front-of c.args.word.now c.args.letters.now c.strip_suffix.result c.strip_suffix.ensures.cases }
