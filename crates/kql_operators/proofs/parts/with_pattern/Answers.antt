use Rattle.kql_syntax.proofs.ReadingLaws.{after_found, after_refused, after_none, raises}
use Rattle.kql_operators.proofs.parts.with_pattern.Goals as goal

pub returns-in_err-_with-clause-read : goal.returns-in_err-_with-clause-read
returns-in_err-_with-clause-read c = raises _ c.from_residual.ensures.1 c.in_err-_with.ensures.read (λ e r. after_none r)

pub returns-in_err-pattern-clause-read : goal.returns-in_err-pattern-clause-read
returns-in_err-pattern-clause-read c = raises _ c.from_residual-in_err-pattern.ensures.1 c.in_err-pattern.ensures.read (λ e r. after_refused c.in_ok-_with.ensures.read r)

pub returns-clause-read : goal.returns-clause-read
returns-clause-read c = after_found c.in_ok-_with.ensures.read c.in_ok-pattern.ensures.read
