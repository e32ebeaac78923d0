use Rattle.std.proofs.Common.{refl}
use Rattle.kql_syntax.proofs.ReadingLaws.{pair_found, pair_refused, pair_refused_late, before_found, before_refused, before_none, raises}
use Rattle.kql_operators.proofs.scans.setting.Goals as goal

pub returns-in_err-name-clause-read : goal.returns-in_err-name-clause-read
returns-in_err-name-clause-read c = raises _ c.from_residual.ensures.1 c.in_err-name.ensures.read (λ e r. (pair_refused (before_refused r refl) refl))

pub returns-in_err-_sign-clause-read : goal.returns-in_err-_sign-clause-read
returns-in_err-_sign-clause-read c = raises _ c.from_residual-in_err-_sign.ensures.1 c.in_err-_sign.ensures.read (λ e r. (pair_refused (before_none c.in_ok-name.ensures.read r refl) refl))

pub returns-in_err-value-clause-read : goal.returns-in_err-value-clause-read
returns-in_err-value-clause-read c = raises _ c.from_residual-in_err-value.ensures.1 c.in_err-value.ensures.read (λ e r. (pair_refused_late (before_found c.in_ok-name.ensures.read c.in_ok-_sign.ensures.read refl) r refl))

pub returns-clause-read : goal.returns-clause-read
returns-clause-read c = (pair_found (before_found c.in_ok-name.ensures.read c.in_ok-_sign.ensures.read refl) c.in_ok-value.ensures.read refl)
