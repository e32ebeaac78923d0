use Rattle.kql_words.specs.Command.{name_in, path_in, texts}
use Rattle.kql_program.proofs.CallFacts.{given-stops, raised-stops}
use Rattle.kql_program.proofs.WordFacts.{raised-words, stopped-words}
use Rattle.kql_live.proofs.LiveStepFacts.{bound-words, named-bound, named-stop}
use Rattle.kql_live.proofs.steps.named_bound.Goals as goal

pub returns-in_err-tables-clause-words : goal.returns-in_err-tables-clause-words
returns-in_err-tables-clause-words g c = raised-words _ _ c.from_residual.ensures.1 (stopped-words _ c.in_err-tables.ensures.words)

pub returns-clause-words : goal.returns-clause-words
returns-clause-words g c = bound-words _ _ _ _ _ c.bound_over.ensures.bound

pub returns-in_err-tables-clause-stops : goal.returns-in_err-tables-clause-stops
returns-in_err-tables-clause-stops g c = raised-stops _ _ _ _ c.from_residual.ensures.1 c.in_err-tables.ensures.stops

pub returns-clause-stops : goal.returns-clause-stops
returns-clause-stops g c = given-stops _ _ _ _ c.bound_over.ensures.bound c.in_ok-tables.ensures.stops

pub returns-in_err-tables-clause-bound : goal.returns-in_err-tables-clause-bound
returns-in_err-tables-clause-bound g c =
    named-stop _ c.args.query.now c.args.moment (name_in c.args.word.now) (path_in c.args.word.now) c.in-Some.told.1.now (texts c.args.paths.now) _ _ c.in-Some.ensures.parts.2 c.in_err-tables.ensures.tables c.from_residual.ensures.1

pub returns-clause-bound : goal.returns-clause-bound
returns-clause-bound g c =
    named-bound _ c.args.query.now c.args.moment (name_in c.args.word.now) c.in-Some.told.0.now (path_in c.args.word.now) c.in-Some.told.1.now (texts c.args.paths.now) c.in_ok-tables.tables _ c.in-Some.ensures.parts.1 c.in-Some.ensures.parts.2
    c.in_ok-tables.ensures.tables c.bound_over.ensures.bound
