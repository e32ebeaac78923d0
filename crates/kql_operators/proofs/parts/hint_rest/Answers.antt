use Rattle.std.proofs.Common.{refl}
use Rattle.kql_syntax.proofs.ReadingLaws.{pair_found, pair_refused, pair_refused_late, after_found, after_refused, after_none, raises}
use Rattle.kql_operators.proofs.parts.hint_rest.Goals as goal

pub returns-in_err-_dot-clause-read : goal.returns-in_err-_dot-clause-read
returns-in_err-_dot-clause-read c = raises _ c.from_residual.ensures.1 c.in_err-_dot.ensures.read (λ e r. (pair_refused (after_none r) refl))

pub returns-in_err-name-clause-read : goal.returns-in_err-name-clause-read
returns-in_err-name-clause-read c = raises _ c.from_residual-in_err-name.ensures.1 c.in_err-name.ensures.read (λ e r. (pair_refused (after_refused c.in_ok-_dot.ensures.read r) refl))

pub returns-in_err-_sign-clause-read : goal.returns-in_err-_sign-clause-read
returns-in_err-_sign-clause-read c = raises _ c.from_residual-in_err-_sign.ensures.1 c.in_err-_sign.ensures.read (λ e r. (pair_refused_late (after_found c.in_ok-_dot.ensures.read c.in_ok-name.ensures.read) (after_none r) refl))

pub returns-in_err-value-clause-read : goal.returns-in_err-value-clause-read
returns-in_err-value-clause-read c = raises _ c.from_residual-in_err-value.ensures.1 c.in_err-value.ensures.read (λ e r. (pair_refused_late (after_found c.in_ok-_dot.ensures.read c.in_ok-name.ensures.read) (after_refused c.in_ok-_sign.ensures.read r) refl))

pub returns-clause-read : goal.returns-clause-read
returns-clause-read c = (pair_found (after_found c.in_ok-_dot.ensures.read c.in_ok-name.ensures.read) (after_found c.in_ok-_sign.ensures.read c.in_ok-value.ensures.read) refl)
