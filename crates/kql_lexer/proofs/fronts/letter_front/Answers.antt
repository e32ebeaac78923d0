use Rattle.std.proofs.Common.{sym, ◌∙◌}
use Rattle.kql_lexer.proofs.WordFronts.{joined_is}
use Rattle.kql_lexer.proofs.fronts.letter_front.Goals as goal

pub returns-in-Some-clause-front : goal.returns-in-Some-clause-front
returns-in-Some-clause-front c =
    joined_is c.args.rest.now c.text.result.now c.in-Some.keyword (sym c.word_before.ensures ∙ c.in-Some.is) c.text.ensures.text c.requires.some c.requires.class
