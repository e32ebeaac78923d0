use Rattle.std.proofs.Common.{sym, ◌∙◌}
use Rattle.std.proofs.lemmas.List.{take_rest}
use Rattle.kql_lexer.proofs.SignFronts.{bang_is, negated_is}
use Rattle.kql_lexer.proofs.fronts.negated_front.Goals as goal

pub returns-in-Some : goal.returns-in-Some
returns-in-Some c =
    let found = rw take_rest at c.word_before.ensures in
    negated_is c.args.rest.now c.text.result.now c.in-Some.keyword c.requires.no_sign (sym found ∙ c.in-Some.is) c.text.ensures.text c.requires.some c.requires.class

pub returns-in-None : goal.returns-in-None
returns-in-None c =
    let found = rw take_rest at c.word_before.ensures in
    bang_is c.args.rest.now c.requires.no_sign (sym found ∙ c.in-None.is) c.requires.some c.requires.class
