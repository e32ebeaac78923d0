use Rattle.std.proofs.Common.{refl}
use Rattle.kql_syntax.proofs.ReadingLaws.{before_found, before_refused, before_none, raises}
use Rattle.kql_parser.proofs.lets.let_name.Goals as goal

pub returns-in_err-name-clause-read : goal.returns-in_err-name-clause-read
returns-in_err-name-clause-read c = raises _ c.from_residual.ensures.1 c.in_err-name.ensures.read (λ e r. before_refused r refl)

pub returns-in_err-_sign-clause-read : goal.returns-in_err-_sign-clause-read
returns-in_err-_sign-clause-read c = raises _ c.from_residual-in_err-_sign.ensures.1 c.in_err-_sign.ensures.read (λ e r. before_none c.in_ok-name.ensures.read r refl)

pub returns-clause-read : goal.returns-clause-read
returns-clause-read c = before_found c.in_ok-name.ensures.read c.in_ok-_sign.ensures.read refl
