use Rattle.std.proofs.Common.{[]}
use Rattle.kql_syntax.proofs.NameFacts.{word_named}
use Rattle.kql_syntax.proofs.class.is_name.Goals as goal

pub returns-in-Word-clause-class : goal.returns-in-Word-clause-class
returns-in-Word-clause-class c = rw (c.is_reserved.ensures.reserved, c.in-Word.is) (word_named _ [])
