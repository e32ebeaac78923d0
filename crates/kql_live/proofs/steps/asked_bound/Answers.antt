use Rattle.kql_live.proofs.LiveStepFacts.{first-names, words-are}
use Rattle.kql_live.proofs.steps.asked_bound.Goals as goal

pub named_bound-requires-clause-names : goal.named_bound-requires-clause-names
named_bound-requires-clause-names g c κs within = first-names c.args.words.now c.in-Some.paths.now c.in-Some.word.now c.as_str.result.now c.in-Some.ensures.cases.0 c.as_str.ensures.value c.requires.paths

pub returns-clause-bound : goal.returns-clause-bound
returns-clause-bound g c =
    words-are _ c.args.query.now c.args.moment c.args.words.now c.in-Some.paths.now c.in-Some.word.now c.as_str.result.now _ c.in-Some.ensures.cases.0 c.as_str.ensures.value c.named_bound.ensures.bound
