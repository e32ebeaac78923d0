use Rattle.std.proofs.Common.{◌≡◌, take, sym, ◌∙◌, arith}
use Rattle.std.proofs.lemmas.Grind.{common_steps}
use Rattle.kql_lexer.proofs.WordFronts.{keyword_is, none_literal_at, some_literal_at, word_is}
use Rattle.kql_lexer.proofs.fronts.word_front.Goals as goal

pub literal_at-requires-clause-keyword : goal.literal_at-requires-clause-keyword
literal_at-requires-clause-keyword c =
    let word : c.ascii.result.now ≡ take c.word_len-size.result c.args.rest.now = grind (arith, common_steps) in
    keyword_is c.args.rest.now c.ascii.result.now c.word_len-size.result c.keyword_of-keyword.result c.word_len-size.ensures word c.keyword_of-keyword.ensures.keyword

pub literal_front-requires-clause-within : goal.literal_front-requires-clause-within
literal_front-requires-clause-within c = (some_literal_at c.args.rest.now c.in-Some.at (sym c.in-Some.is ∙ c.literal_at.ensures.value)).2

pub literal_front-requires-clause-keyword : goal.literal_front-requires-clause-keyword
literal_front-requires-clause-keyword c =
    let word : c.ascii.result.now ≡ take c.word_len-size.result c.args.rest.now = grind (arith, common_steps) in
    keyword_is c.args.rest.now c.ascii.result.now c.word_len-size.result c.keyword_of-keyword.result c.word_len-size.ensures word c.keyword_of-keyword.ensures.keyword

pub literal_front-requires-clause-opens : goal.literal_front-requires-clause-opens
literal_front-requires-clause-opens c = (some_literal_at c.args.rest.now c.in-Some.at (sym c.in-Some.is ∙ c.literal_at.ensures.value)).0

pub literal_front-requires-clause-place : goal.literal_front-requires-clause-place
literal_front-requires-clause-place c = (some_literal_at c.args.rest.now c.in-Some.at (sym c.in-Some.is ∙ c.literal_at.ensures.value)).1

pub returns-in-None-clause-front : goal.returns-in-None-clause-front
returns-in-None-clause-front c =
    let word : c.ascii.result.now ≡ take c.word_len-size.result c.args.rest.now = grind (arith, common_steps) in
    word_is c.args.rest.now c.word_len-size.result c.keyword_of-keyword.result c.word_len-size.ensures c.requires.some c.requires.class c.requires.joined
    (none_literal_at c.args.rest.now (sym c.in-None.is ∙ c.literal_at.ensures.value)) (rw word at c.keyword_of-keyword.ensures.keyword)
