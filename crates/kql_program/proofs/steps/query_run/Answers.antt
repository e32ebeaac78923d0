use Rattle.kql_words.specs.Command.{texts}
use Rattle.kql_program.proofs.JudgedFacts.{command-judged, command-wanting}
use Rattle.kql_program.proofs.TopFacts.{run-done, text-ok, text-stop}
use Rattle.kql_program.proofs.WordFacts.{raised-words, stopped-words}
use Rattle.kql_program.proofs.CallFacts.{memory-stops, raised-stops}
use Rattle.kql_program.proofs.PatternFacts.{raised-pattern, stopped-pattern}
use Rattle.kql_program.proofs.steps.query_run.Goals as goal

pub returns-in_err-bound-clause-text : goal.returns-in_err-bound-clause-text
returns-in_err-bound-clause-text g c = text-stop _ _ (texts c.args.words.now) c.args.asked _ _ c.in_err-bound.ensures.bound c.from_residual.ensures.1

pub returns-clause-text : goal.returns-clause-text
returns-clause-text g c = text-ok _ _ (texts c.args.words.now) c.args.asked _ _ c.in_ok-bound.ensures.bound c.in_ok-bound_run.ensures.text

pub returns-clause-done : goal.returns-clause-done
returns-clause-done g c = run-done _ _ (texts c.args.words.now) c.args.asked _ _ _ c.in_ok-bound.ensures.bound c.in_ok-bound_run.ensures.plan

pub returns-in_err-bound-clause-words : goal.returns-in_err-bound-clause-words
returns-in_err-bound-clause-words g c = raised-words _ _ c.from_residual.ensures.1 (stopped-words _ c.in_err-bound.ensures.words)

pub returns-in_err-bound-clause-stops : goal.returns-in_err-bound-clause-stops
returns-in_err-bound-clause-stops g c = raised-stops _ _ _ _ c.from_residual.ensures.1 c.in_err-bound.ensures.stops

pub returns-in_err-bound_run-clause-stops : goal.returns-in_err-bound_run-clause-stops
returns-in_err-bound_run-clause-stops g c = memory-stops _ _ _ c.from_residual-in_err-bound_run.ensures.1 c.in_ok-bound.ensures.stops

pub returns-in_err-bound-clause-pattern : goal.returns-in_err-bound-clause-pattern
returns-in_err-bound-clause-pattern g c = raised-pattern _ _ _ c.from_residual.ensures.1 (stopped-pattern _ _ c.in_err-bound.ensures.pattern)

pub returns-in_err-bound-clause-judged : goal.returns-in_err-bound-clause-judged
returns-in_err-bound-clause-judged g c = command-judged g.P.PatternMaker.makes g.P.PatternMaker.refuses _ (texts c.args.words.now) c.args.asked _ _ c.from_residual.ensures.1 c.in_err-bound.ensures.judged

pub returns-in_err-bound_run-clause-judged : goal.returns-in_err-bound_run-clause-judged
returns-in_err-bound_run-clause-judged g c = command-wanting g.P.PatternMaker.makes g.P.PatternMaker.refuses _ (texts c.args.words.now) c.args.asked _ c.from_residual-in_err-bound_run.ensures.1

pub returns-clause-judged : goal.returns-clause-judged
returns-clause-judged g c = c.in_ok-bound.ensures.judged
