use Rattle.kql_syntax.proofs.ReadingLaws.{after_found, after_refused, after_none, raises}
use Rattle.kql_operators.proofs.joins.on_keys.Goals as goal

pub returns-in_err-_on-clause-read : goal.returns-in_err-_on-clause-read
returns-in_err-_on-clause-read c = raises _ c.from_residual.ensures.1 c.in_err-_on.ensures.read (λ e r. after_none r)

pub returns-in_err-list-clause-read : goal.returns-in_err-list-clause-read
returns-in_err-list-clause-read c = raises _ c.from_residual-in_err-list.ensures.1 c.in_err-list.ensures.read (λ e r. after_refused c.in_ok-_on.ensures.read r)

pub returns-clause-read : goal.returns-clause-read
returns-clause-read c = after_found c.in_ok-_on.ensures.read c.in_ok-list.ensures.read
