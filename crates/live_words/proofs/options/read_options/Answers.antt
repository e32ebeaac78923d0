use Rattle.std.proofs.Common.{ap, arith}
use Rattle.live_words.proofs.OptionFacts.{words-in-few}
use Rattle.live_words.proofs.options.read_options.Goals as goal

pub returns-in_default-2-clause-first : goal.returns-in_default-2-clause-first
returns-in_default-2-clause-first c =
    let few = words-in-few c.words.options in
    let number = c.words.invariant.number in
    let query = ap (λ a. a.query) c.asked_at.ensures.asked in
    (omega (arith, few, number, query), omega (arith, few, number, query))
