use Rattle.kql_program.proofs.BoundFacts.{called-program, program-stop, uncalled-program}
use Rattle.kql_program.proofs.WordFacts.{raised-words, stopped-words}
use Rattle.kql_program.proofs.evaluate.program_of.Goals as goal

pub returns-in_err-program-clause-program : goal.returns-in_err-program-clause-program
returns-in_err-program-clause-program c = program-stop c.args.query.now c.args.moment c.args.catalogue.now _ _ c.from_residual.ensures.1 c.in_err-program.ensures.program

pub returns-in_err-program-clause-words : goal.returns-in_err-program-clause-words
returns-in_err-program-clause-words c = raised-words _ _ c.from_residual.ensures.1 (stopped-words _ c.in_err-program.ensures.words)

pub returns-in-None-clause-program : goal.returns-in-None-clause-program
returns-in-None-clause-program c =
    uncalled-program c.args.query.now c.args.moment c.args.catalogue.now c.in_ok-program.program c.get.result.now _ c.in_ok-program.ensures.program c.get.ensures.value c.in_ok-first_call.ensures.first c.in-None.is

pub returns-in-Some-clause-program : goal.returns-in-Some-clause-program
returns-in-Some-clause-program c =
    called-program c.args.query.now c.args.moment c.args.catalogue.now c.in_ok-program.program c.get.result.now _ c.in-Some.place c.in_ok-program.ensures.program c.get.ensures.value c.in_ok-first_call.ensures.first c.in-Some.is
