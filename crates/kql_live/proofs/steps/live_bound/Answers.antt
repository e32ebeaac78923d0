use Rattle.kql_words.specs.Command.{texts}
use Rattle.kql_program.proofs.CallFacts.{raised-stops}
use Rattle.kql_program.proofs.WordFacts.{raised-words, stopped-words}
use Rattle.kql_live.proofs.LiveStepFacts.{viewed-ok, viewed-refused, viewed-stop, viewed-words}
use Rattle.kql_live.proofs.steps.live_bound.Goals as goal

pub returns-in_err-bound-clause-bound : goal.returns-in_err-bound-clause-bound
returns-in_err-bound-clause-bound g c = viewed-stop _ (texts c.args.words.now) c.args.asked _ _ c.in_err-bound.ensures.bound c.from_residual.ensures.1

pub returns-in_err-bound-clause-words : goal.returns-in_err-bound-clause-words
returns-in_err-bound-clause-words g c = raised-words _ _ c.from_residual.ensures.1 (stopped-words _ c.in_err-bound.ensures.words)

pub returns-in_err-bound-clause-stops : goal.returns-in_err-bound-clause-stops
returns-in_err-bound-clause-stops g c = raised-stops _ _ _ _ c.from_residual.ensures.1 c.in_err-bound.ensures.stops

pub returns-in_err-kept-clause-bound : goal.returns-in_err-kept-clause-bound
returns-in_err-kept-clause-bound g c =
    viewed-refused _ (texts c.args.words.now) c.args.asked c.in_ok-bound.bound _ _ c.in_ok-bound.ensures.bound c.in_err-kept.ensures.viewed c.from_residual-in_err-kept.ensures.1

pub returns-in_err-kept-clause-words : goal.returns-in_err-kept-clause-words
returns-in_err-kept-clause-words g c =
    raised-words _ _ c.from_residual-in_err-kept.ensures.1 (viewed-words c.args.asked.options.view c.in_ok-bound.bound _ c.in_err-kept.ensures.viewed)

pub returns-in_err-kept-clause-stops : goal.returns-in_err-kept-clause-stops
returns-in_err-kept-clause-stops g c = raised-stops _ _ _ _ c.from_residual-in_err-kept.ensures.1 c.in_ok-bound.ensures.stops

pub returns-clause-bound : goal.returns-clause-bound
returns-clause-bound g c = viewed-ok _ (texts c.args.words.now) c.args.asked c.in_ok-bound.bound c.in_ok-kept.kept c.in_ok-bound.ensures.bound c.in_ok-kept.ensures.viewed
