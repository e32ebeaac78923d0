use Rattle.kql_words.specs.Command.{texts}
use Rattle.kql_program.proofs.JudgedFacts.{asked-judged, asked-unread}
use Rattle.kql_program.proofs.StepFacts.{asked-bound, asked-stop}
use Rattle.kql_program.proofs.WordFacts.{raised-words, stopped-words}
use Rattle.kql_program.proofs.CallFacts.{found-stops, raised-stops}
use Rattle.kql_program.proofs.PatternFacts.{never-blames, raised-pattern, stopped-pattern}
use Rattle.kql_program.specs.Queries.{IsBoundOver}
use Rattle.kql_program.proofs.steps.asked_bound.Goals as goal

pub returns-in_err-tables-clause-bound : goal.returns-in_err-tables-clause-bound
returns-in_err-tables-clause-bound g c = asked-stop _ _ c.args.tokens.now c.args.query.now c.args.options.limit _ c.args.options.moment (texts c.args.words.now) _ _ c.in_err-tables.ensures.tables c.from_residual.ensures.1

pub returns-clause-bound : goal.returns-clause-bound
returns-clause-bound g c = asked-bound _ _ c.args.tokens.now c.args.query.now c.args.options.limit _ c.args.options.moment (texts c.args.words.now) _ _ c.in_ok-tables.ensures.tables c.bound_over.ensures.bound

pub returns-in_err-tables-clause-words : goal.returns-in_err-tables-clause-words
returns-in_err-tables-clause-words g c = raised-words _ _ c.from_residual.ensures.1 (stopped-words _ c.in_err-tables.ensures.words)

pub returns-in_err-tables-clause-stops : goal.returns-in_err-tables-clause-stops
returns-in_err-tables-clause-stops g c = raised-stops _ _ _ _ c.from_residual.ensures.1 c.in_err-tables.ensures.stops

pub returns-clause-stops : goal.returns-clause-stops
returns-clause-stops g c = found-stops (IsBoundOver _ c.args.tokens.now c.args.query.now c.args.options.moment _) _ _ _ c.bound_over.ensures.bound c.in_ok-tables.ensures.stops

pub returns-in_err-tables-clause-pattern : goal.returns-in_err-tables-clause-pattern
returns-in_err-tables-clause-pattern g c = raised-pattern _ _ _ c.from_residual.ensures.1 (never-blames _ _ (stopped-pattern ⊥ _ c.in_err-tables.ensures.patterns))

pub returns-in_err-tables-clause-judged : goal.returns-in_err-tables-clause-judged
returns-in_err-tables-clause-judged g c = asked-unread g.P.PatternMaker.makes g.P.PatternMaker.refuses _ c.args.query.now c.args.options.limit _ c.args.options.moment (texts c.args.words.now) _ _ c.from_residual.ensures.1 (stopped-pattern ⊥ _ c.in_err-tables.ensures.patterns)

pub returns-clause-judged : goal.returns-clause-judged
returns-clause-judged g c = asked-judged g.P.PatternMaker.makes g.P.PatternMaker.refuses _ c.args.query.now c.args.options.limit _ c.args.options.moment (texts c.args.words.now) _ _ c.in_ok-tables.ensures.tables c.bound_over.ensures.judged
