use Rattle.kql_program.proofs.PatternFacts.{bind-pattern, raised-pattern}
use Rattle.kql_program.proofs.evaluate.bound_program_of.Goals as goal

pub returns-in_err-program-clause-patterns : goal.returns-in_err-program-clause-patterns
returns-in_err-program-clause-patterns c = raised-pattern _ _ _ c.from_residual-in_err-program.ensures.1 (bind-pattern _ c.in_err-program.ensures.codes)
