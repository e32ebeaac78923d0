use Rattle.kql_words.specs.Command.{texts}
use Rattle.kql_program.proofs.JudgedFacts.{parsed-judged, parsed-unread}
use Rattle.kql_program.proofs.StepFacts.{parsed-fault, parsed-bound}
use Rattle.kql_program.proofs.WordFacts.{raised-words, syntax-words}
use Rattle.std.proofs.Common.{refl}
use Rattle.kql_program.proofs.CallFacts.{no-syntax-fault, syntax-stops}
use Rattle.kql_program.proofs.StartFacts.{none-start}
use Rattle.kql_program.proofs.PatternFacts.{never-blames, raised-pattern, syntax-pattern}
use Rattle.kql_program.proofs.steps.parsed_bound.Goals as goal

pub returns-in_err-query-clause-bound : goal.returns-in_err-query-clause-bound
returns-in_err-query-clause-bound g c = parsed-fault _ _ c.args.tokens.now c.args.options.limit _ c.args.options.moment (texts c.args.words.now) _ _ c.in_err-query.ensures.parsed c.from_residual.ensures.1

pub returns-clause-bound : goal.returns-clause-bound
returns-clause-bound g c = parsed-bound _ _ c.args.tokens.now c.args.options.limit _ c.args.options.moment (texts c.args.words.now) _ _ c.in_ok-query.ensures.parsed c.asked_bound-bound.ensures.bound

pub returns-in_err-query-clause-words : goal.returns-in_err-query-clause-words
returns-in_err-query-clause-words g c = raised-words _ _ c.from_residual.ensures.1 (syntax-words _)

pub returns-in_err-query-clause-stops : goal.returns-in_err-query-clause-stops
returns-in_err-query-clause-stops g c = syntax-stops _ _ _ _ c.from_residual.ensures.1 refl

pub returns-clause-alone : goal.returns-clause-alone
returns-clause-alone g c = λ code place r. no-syntax-fault _ _ _ code place c.in_ok-query.ensures.parsed r

pub returns-in_err-query-clause-starts : goal.returns-in_err-query-clause-starts
returns-in_err-query-clause-starts g c = none-start _ c.args.options.limit _ (texts c.args.words.now) _ _ refl

pub returns-in_err-query-clause-pattern : goal.returns-in_err-query-clause-pattern
returns-in_err-query-clause-pattern g c = raised-pattern _ _ _ c.from_residual.ensures.1 (never-blames _ _ (syntax-pattern _ _ c.in_err-query.ensures.parsed))

pub returns-in_err-query-clause-judged : goal.returns-in_err-query-clause-judged
returns-in_err-query-clause-judged g c = parsed-unread g.P.PatternMaker.makes g.P.PatternMaker.refuses _ c.args.tokens.now c.args.options.limit _ c.args.options.moment (texts c.args.words.now) _ _ c.in_err-query.ensures.parsed c.from_residual.ensures.1

pub returns-clause-judged : goal.returns-clause-judged
returns-clause-judged g c = parsed-judged g.P.PatternMaker.makes g.P.PatternMaker.refuses _ c.args.tokens.now c.args.options.limit _ c.args.options.moment (texts c.args.words.now) _ _ c.in_ok-query.ensures.parsed c.asked_bound-bound.ensures.judged
