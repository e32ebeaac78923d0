use Rattle.kql_syntax.proofs.ReadingLaws.{after_found, after_refused, after_none, raises}
use Rattle.kql_operators.proofs.parts.by_keys.Goals as goal

pub returns-in_err-_by-clause-read : goal.returns-in_err-_by-clause-read
returns-in_err-_by-clause-read c = raises _ c.from_residual.ensures.1 c.in_err-_by.ensures.read (λ e r. (after_none r))

pub returns-in_err-keys-clause-read : goal.returns-in_err-keys-clause-read
returns-in_err-keys-clause-read c = raises _ c.from_residual-in_err-keys.ensures.1 c.in_err-keys.ensures.read (λ e r. (after_refused c.in_ok-_by.ensures.read r))

pub returns-clause-read : goal.returns-clause-read
returns-clause-read c = (after_found c.in_ok-_by.ensures.read c.in_ok-keys.ensures.read)
