use Rattle.std.proofs.Common.{◌∙◌, ap, refl}
use Rattle.std.specs.Prelude.{string_bytes}
use Rattle.kql_program.proofs.CallFacts.{raised-stops, reads-behind}
use Rattle.kql_program.proofs.WordFacts.{raised-words, stopped-words}
use Rattle.kql_live.proofs.LiveStepFacts.{asked-parsed, asked-tokens, rest-paths}
use Rattle.kql_live.proofs.steps.query_bound.Goals as goal

pub returns-in_err-tokens-clause-bound : goal.returns-in_err-tokens-clause-bound
returns-in_err-tokens-clause-bound g c =
    let path = c.as_str.ensures.value ∙ ap string_bytes c.index-words-asked.is in
    asked-tokens _ c.args.words.now c.args.asked _ c.as_str.result.now _ _ c.requires.within path c.in_err-tokens.ensures.tokens c.from_residual.ensures.1

pub returns-in_err-tokens-clause-words : goal.returns-in_err-tokens-clause-words
returns-in_err-tokens-clause-words g c = raised-words _ _ c.from_residual.ensures.1 (stopped-words _ c.in_err-tokens.ensures.words)

pub returns-in_err-tokens-clause-stops : goal.returns-in_err-tokens-clause-stops
returns-in_err-tokens-clause-stops g c = raised-stops _ _ _ _ c.from_residual.ensures.1 c.in_err-tokens.ensures.stops

pub parsed_bound-requires-clause-paths : goal.parsed_bound-requires-clause-paths
parsed_bound-requires-clause-paths g c κs within = rest-paths c.args.words.now _ _ refl c.requires.paths

pub returns-clause-bound : goal.returns-clause-bound
returns-clause-bound g c =
    let path = c.as_str.ensures.value ∙ ap string_bytes c.index-words-asked.is in
    asked-parsed _ _ c.args.words.now _ c.args.asked _ c.as_str.result.now _ _ c.requires.within path refl c.in_ok-tokens.ensures.tokens c.in_ok-tokens.ensures.files c.parsed_bound.ensures.bound

pub returns-clause-stops : goal.returns-clause-stops
returns-clause-stops g c = reads-behind _ _ _ _ c.in_ok-tokens.ensures.stops c.parsed_bound.ensures.stops
