use Rattle.std.proofs.Common.{refl}
use Rattle.kql_words.specs.Command.{texts}
use Rattle.kql_program.proofs.CallFacts.{syntax-stops}
use Rattle.kql_program.proofs.WordFacts.{raised-words, syntax-words}
use Rattle.kql_live.proofs.LiveStepFacts.{parsed-bound, parsed-fault}
use Rattle.kql_live.proofs.steps.parsed_bound.Goals as goal

pub returns-in_err-query-clause-bound : goal.returns-in_err-query-clause-bound
returns-in_err-query-clause-bound g c = parsed-fault _ c.args.tokens.now c.args.moment (texts c.args.words.now) _ _ c.in_err-query.ensures.parsed c.from_residual.ensures.1

pub returns-clause-bound : goal.returns-clause-bound
returns-clause-bound g c = parsed-bound _ c.args.tokens.now c.args.moment (texts c.args.words.now) _ _ c.in_ok-query.ensures.parsed c.asked_bound-bound.ensures.bound

pub returns-in_err-query-clause-words : goal.returns-in_err-query-clause-words
returns-in_err-query-clause-words g c = raised-words _ _ c.from_residual.ensures.1 (syntax-words _)

pub returns-in_err-query-clause-stops : goal.returns-in_err-query-clause-stops
returns-in_err-query-clause-stops g c = syntax-stops _ _ _ _ c.from_residual.ensures.1 refl
