use Rattle.std.proofs.Common.{refl}
use Rattle.kql_syntax.proofs.ReadingLaws.{before_found, before_refused, before_none, raises}
use Rattle.kql_operators.proofs.scans.sets_end.Goals as goal

pub returns-in_err-list-clause-read : goal.returns-in_err-list-clause-read
returns-in_err-list-clause-read c = raises _ c.from_residual.ensures.1 c.in_err-list.ensures.read (λ e r. before_refused r refl)

pub returns-in_err-_semicolon-clause-read : goal.returns-in_err-_semicolon-clause-read
returns-in_err-_semicolon-clause-read c = raises _ c.from_residual-in_err-_semicolon.ensures.1 c.in_err-_semicolon.ensures.read (λ e r. before_none c.in_ok-list.ensures.read r refl)

pub returns-clause-read : goal.returns-clause-read
returns-clause-read c = before_found c.in_ok-list.ensures.read c.in_ok-_semicolon.ensures.read refl
