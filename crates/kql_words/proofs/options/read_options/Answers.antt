use Rattle.std.proofs.Common.{◌≡◌, ◌≤◌, ◌<◌, ◌+◌, ap, arith, length, rules, refl}
use Rattle.std.proofs.lemmas.Grind.{common_steps}
use Rattle.kql_words.specs.Options.{asked_from}
use Rattle.kql_words.proofs.OptionFacts.{words-in-few}
use Rattle.kql_words.proofs.options.read_options.Goals as goal

pub returns-in_default-2-clause-first : goal.returns-in_default-2-clause-first
returns-in_default-2-clause-first c =
    let few = words-in-few c.words.options in
    let number = c.words.invariant.number in
    let query = ap (λ a. a.query) c.asked_at.ensures in
    (omega (arith, few, number, query), omega (arith, few, number, query))

pub words-preserved : goal.words-preserved
unfolding asked_from
words-preserved c =
    let lt : c.words.number < 1 + length c.args.words.now = grind (arith, common_steps) in
    record {
      left = first_of (search rules, grind (arith, common_steps));
      number = first_of (search rules, grind (arith, common_steps));
      within = first_of (search rules, grind (arith, common_steps));
      moment = first_of (search rules, grind (arith, common_steps));
      workers = first_of (search rules, grind (arith, common_steps));
      limit = first_of (search rules, grind (arith, common_steps));
      catalogue = rw c.in-Some-2.is at c.in_ok-next.ensures.catalogue (1 + length c.args.words.now) lt c.words.invariant.catalogue;
    }
