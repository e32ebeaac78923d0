use Rattle.std.proofs.Common.{◌∙◌, ap, refl}
use Rattle.std.specs.Prelude.{string_bytes}
use Rattle.kql_words.specs.Command.{texts}
use Rattle.kql_program.proofs.JudgedFacts.{query-judged, query-unread}
use Rattle.kql_program.proofs.StepFacts.{asked-parsed, asked-tokens, path-asked}
use Rattle.kql_program.proofs.WordFacts.{raised-words, stopped-words}
use Rattle.kql_program.proofs.CallFacts.{query-alone, raised-stops, reads-behind}
use Rattle.kql_program.proofs.StartFacts.{query-start, tables-start}
use Rattle.kql_program.proofs.PatternFacts.{never-blames, raised-pattern, stopped-pattern}
use Rattle.kql_program.proofs.steps.query_bound.Goals as goal

pub returns-in_err-tokens-clause-bound : goal.returns-in_err-tokens-clause-bound
returns-in_err-tokens-clause-bound g c =
    let path = c.as_str.ensures.value ∙ ap string_bytes c.index-words-asked.is in
    asked-tokens _ _ c.args.words.now c.args.asked _ c.as_str.result.now _ _ c.requires.within path c.in_err-tokens.ensures.tokens c.from_residual.ensures.1

pub returns-clause-bound : goal.returns-clause-bound
returns-clause-bound g c =
    let path = c.as_str.ensures.value ∙ ap string_bytes c.index-words-asked.is in
    asked-parsed _ _ _ c.args.words.now _ c.args.asked _ c.as_str.result.now _ _ _ c.requires.within path refl c.catalogue_path-catalogue.ensures.path c.in_ok-tokens.ensures.tokens c.in_ok-tokens.ensures.files c.parsed_bound.ensures.bound

pub returns-in_err-tokens-clause-words : goal.returns-in_err-tokens-clause-words
returns-in_err-tokens-clause-words g c = raised-words _ _ c.from_residual.ensures.1 (stopped-words _ c.in_err-tokens.ensures.words)

pub returns-in_err-tokens-clause-stops : goal.returns-in_err-tokens-clause-stops
returns-in_err-tokens-clause-stops g c = raised-stops _ _ _ _ c.from_residual.ensures.1 c.in_err-tokens.ensures.stops

pub returns-clause-stops : goal.returns-clause-stops
returns-clause-stops g c = reads-behind _ _ _ _ c.in_ok-tokens.ensures.stops c.parsed_bound.ensures.stops

pub returns-in_err-tokens-clause-starts : goal.returns-in_err-tokens-clause-starts
returns-in_err-tokens-clause-starts g c = query-start _ (texts c.args.words.now) c.args.asked _ _ c.in_err-tokens.ensures.starts

pub returns-clause-starts : goal.returns-clause-starts
returns-clause-starts g c =
    let path = c.as_str.ensures.value ∙ ap string_bytes c.index-words-asked.is in
    let own = query-alone _ (texts c.args.words.now) c.as_str.result.now c.args.asked _ _ _ _ (path-asked c.args.words.now c.args.asked _ c.as_str.result.now c.requires.within path) c.in_ok-tokens.ensures.tokens c.in_ok-tokens.ensures.starts c.parsed_bound.ensures.alone in
    tables-start _ _ c.args.words.now _ c.args.asked _ _ _ _ refl c.catalogue_path-catalogue.ensures.path c.in_ok-tokens.ensures.files c.in_ok-tokens.ensures.starts own c.parsed_bound.ensures.starts

pub returns-in_err-tokens-clause-pattern : goal.returns-in_err-tokens-clause-pattern
returns-in_err-tokens-clause-pattern g c = raised-pattern _ _ _ c.from_residual.ensures.1 (never-blames _ _ (stopped-pattern ⊥ _ c.in_err-tokens.ensures.patterns))

pub returns-in_err-tokens-clause-judged : goal.returns-in_err-tokens-clause-judged
returns-in_err-tokens-clause-judged g c = query-unread g.P.PatternMaker.makes g.P.PatternMaker.refuses _ (texts c.args.words.now) c.args.asked _ _ c.from_residual.ensures.1 (stopped-pattern ⊥ _ c.in_err-tokens.ensures.patterns)

pub returns-clause-judged : goal.returns-clause-judged
returns-clause-judged g c =
    let path = c.as_str.ensures.value ∙ ap string_bytes c.index-words-asked.is in
    query-judged g.P.PatternMaker.makes g.P.PatternMaker.refuses _ _ c.args.words.now _ c.args.asked _ c.as_str.result.now _ _ _ c.requires.within path refl c.catalogue_path-catalogue.ensures.path c.in_ok-tokens.ensures.tokens c.in_ok-tokens.ensures.files c.parsed_bound.ensures.judged
