use Rattle.std.proofs.Common.{◌∙◌, ◌+◌, ap, arith}
use Rattle.std.proofs.lemmas.List.{take_rest}
use Rattle.kql_lexer.specs.Literals.{raw_len}
use Rattle.kql_lexer.proofs.WordFronts.{closed_literal_is, open_literal_is, plain_closed}
use Rattle.kql_lexer.proofs.literals.literal_front.Goals as goal

pub returns-then-end-rest-clause-front : goal.returns-then-end-rest-clause-front
returns-then-end-rest-clause-front c =
    closed_literal_is c.args.rest.now c.args.at c.raw_len.result c.args.keyword (omega arith) c.requires.class c.requires.none c.requires.opens c.requires.place c.requires.keyword
    (c.raw_len.ensures.len ∙ ap (raw_len 0) (take_rest c.args.rest.now (c.args.at + 1))) c.if-end-rest.true

pub returns-then-end-rest-clause-plain : goal.returns-then-end-rest-clause-plain
returns-then-end-rest-clause-plain c = plain_closed c.args.rest.now c.args.at c.raw_len.result c.raw_len.new.plain c.raw_len.ensures.plain

pub returns-else-end-rest-clause-front : goal.returns-else-end-rest-clause-front
returns-else-end-rest-clause-front c =
    open_literal_is c.args.rest.now c.args.at c.raw_len.result (omega arith) c.requires.class c.requires.none c.requires.opens c.requires.place
    (c.raw_len.ensures.len ∙ ap (raw_len 0) (take_rest c.args.rest.now (c.args.at + 1))) c.requires.within c.if-end-rest.false
