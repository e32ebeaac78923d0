use Rattle.kql_words.specs.Command.{texts}
use Rattle.kql_program.proofs.CallFacts.{memory-stops, raised-stops}
use Rattle.kql_program.proofs.WordFacts.{raised-words, stopped-words}
use Rattle.kql_live.proofs.LiveRunFacts.{text-ok, text-stop}
use Rattle.kql_live.proofs.top.asked_done.Goals as goal

pub returns-in_err-bound-clause-text : goal.returns-in_err-bound-clause-text
returns-in_err-bound-clause-text g c = text-stop _ (texts c.args.words.now) c.args.asked _ _ c.in_err-bound.ensures.bound c.from_residual.ensures.1

pub returns-clause-text : goal.returns-clause-text
returns-clause-text g c = text-ok _ (texts c.args.words.now) c.args.asked c.in_ok-bound.bound _ c.in_ok-bound.ensures.bound c.in_ok-done.ensures.text

pub returns-in_err-bound-clause-words : goal.returns-in_err-bound-clause-words
returns-in_err-bound-clause-words g c = raised-words _ _ c.from_residual.ensures.1 (stopped-words _ c.in_err-bound.ensures.words)

pub returns-in_err-bound-clause-stops : goal.returns-in_err-bound-clause-stops
returns-in_err-bound-clause-stops g c = raised-stops _ _ _ _ c.from_residual.ensures.1 c.in_err-bound.ensures.stops

pub returns-in_err-done-clause-stops : goal.returns-in_err-done-clause-stops
returns-in_err-done-clause-stops g c = memory-stops _ _ _ c.from_residual-in_err-done.ensures.1 c.in_ok-bound.ensures.stops
