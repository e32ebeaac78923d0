use Rattle.std.proofs.Common.{refl}
use Rattle.kql_syntax.proofs.ReadingLaws.{after_found, after_refused, after_none, before_found, before_refused, before_none, raises}
use Rattle.kql_operators.proofs.scans.with_steps.Goals as goal

pub returns-in_err-_with-clause-read : goal.returns-in_err-_with-clause-read
returns-in_err-_with-clause-read c = raises _ c.from_residual.ensures.1 c.in_err-_with.ensures.read (λ e r. after_none r)

pub returns-in_err-_open-clause-read : goal.returns-in_err-_open-clause-read
returns-in_err-_open-clause-read c = raises _ c.from_residual-in_err-_open.ensures.1 c.in_err-_open.ensures.read (λ e r. after_refused c.in_ok-_with.ensures.read (after_none r))

pub returns-in_err-list-clause-read : goal.returns-in_err-list-clause-read
returns-in_err-list-clause-read c = raises _ c.from_residual-in_err-list.ensures.1 c.in_err-list.ensures.read (λ e r. after_refused c.in_ok-_with.ensures.read (after_refused c.in_ok-_open.ensures.read (before_refused r refl)))

pub returns-in_err-_close-clause-read : goal.returns-in_err-_close-clause-read
returns-in_err-_close-clause-read c = raises _ c.from_residual-in_err-_close.ensures.1 c.in_err-_close.ensures.read (λ e r. after_refused c.in_ok-_with.ensures.read (after_refused c.in_ok-_open.ensures.read (before_none c.in_ok-list.ensures.read r refl)))

pub returns-clause-read : goal.returns-clause-read
returns-clause-read c = after_found c.in_ok-_with.ensures.read (after_found c.in_ok-_open.ensures.read (before_found c.in_ok-list.ensures.read c.in_ok-_close.ensures.read refl))
