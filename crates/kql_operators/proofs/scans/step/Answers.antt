use Rattle.std.proofs.Common.{refl}
use Rattle.kql_syntax.proofs.ReadingLaws.{makes_found, makes_refused, pair_found, pair_refused, pair_refused_late, raises}
use Rattle.kql_operators.proofs.scans.step.Goals as goal

pub returns-in_err-place-clause-read : goal.returns-in_err-place-clause-read
returns-in_err-place-clause-read c = raises _ c.from_residual.ensures.1 c.in_err-place.ensures.read (λ e r. makes_refused (pair_refused r refl))

pub returns-in_err-name-clause-read : goal.returns-in_err-name-clause-read
returns-in_err-name-clause-read c = raises _ c.from_residual-in_err-name.ensures.1 c.in_err-name.ensures.read (λ e r. makes_refused (pair_refused_late c.in_ok-place.ensures.read (pair_refused r refl) refl))

pub returns-in_err-output-clause-read : goal.returns-in_err-output-clause-read
returns-in_err-output-clause-read c = raises _ c.from_residual-in_err-output.ensures.1 c.in_err-output.ensures.read (λ e r. makes_refused (pair_refused_late c.in_ok-place.ensures.read (pair_refused_late c.in_ok-name.ensures.read (pair_refused r refl) refl) refl))

pub returns-in_err-rest-clause-read : goal.returns-in_err-rest-clause-read
returns-in_err-rest-clause-read c = raises _ c.from_residual-in_err-rest.ensures.1 c.in_err-rest.ensures.read (λ e r. makes_refused (pair_refused_late c.in_ok-place.ensures.read (pair_refused_late c.in_ok-name.ensures.read (pair_refused_late c.in_ok-output.ensures.read r refl) refl) refl))

pub returns-clause-read : goal.returns-clause-read
returns-clause-read c = makes_found (pair_found c.in_ok-place.ensures.read (pair_found c.in_ok-name.ensures.read (pair_found c.in_ok-output.ensures.read c.in_ok-rest.ensures.read refl) refl) refl)
