use Rattle.std.proofs.Common.{sym, ◌∙◌}
use Rattle.kql_lexer.proofs.SignFronts.{dollar_is, side_is}
use Rattle.kql_lexer.proofs.fronts.dollar_front.Goals as goal

pub returns-in-Some : goal.returns-in-Some
returns-in-Some c = side_is c.args.rest.now c.text.result.now c.in-Some.keyword (sym c.word_before.ensures ∙ c.in-Some.is) c.text.ensures.text c.requires.some c.requires.class

pub returns-in-None : goal.returns-in-None
returns-in-None c = dollar_is c.args.rest.now (sym c.word_before.ensures ∙ c.in-None.is) c.requires.some c.requires.class
