use Rattle.std.proofs.Common.{refl}
use Rattle.kql_syntax.proofs.ReadingLaws.{makes_found, makes_refused, pair_found, pair_refused, pair_refused_late, raises}
use Rattle.kql_operators.proofs.joins.on_pair.Goals as goal

pub returns-in_err-left_place-clause-read : goal.returns-in_err-left_place-clause-read
returns-in_err-left_place-clause-read c = raises _ c.from_residual.ensures.1 c.in_err-left_place.ensures.read (λ e r. makes_refused (pair_refused r refl))

pub returns-in_err-left-clause-read : goal.returns-in_err-left-clause-read
returns-in_err-left-clause-read c = raises _ c.from_residual-in_err-left.ensures.1 c.in_err-left.ensures.read (λ e r. makes_refused (pair_refused_late c.in_ok-left_place.ensures.read (pair_refused r refl) refl))

pub returns-in_err-sign-clause-read : goal.returns-in_err-sign-clause-read
returns-in_err-sign-clause-read c = raises _ c.from_residual-in_err-sign.ensures.1 c.in_err-sign.ensures.read (λ e r. makes_refused (pair_refused_late c.in_ok-left_place.ensures.read (pair_refused_late c.in_ok-left.ensures.read (pair_refused r refl) refl) refl))

pub returns-in_err-rest-clause-read : goal.returns-in_err-rest-clause-read
returns-in_err-rest-clause-read c = raises _ c.from_residual-in_err-rest.ensures.1 c.in_err-rest.ensures.read (λ e r. makes_refused (pair_refused_late c.in_ok-left_place.ensures.read (pair_refused_late c.in_ok-left.ensures.read (pair_refused_late c.in_ok-sign.ensures.read r refl) refl) refl))

pub returns-clause-read : goal.returns-clause-read
returns-clause-read c = makes_found (pair_found c.in_ok-left_place.ensures.read (pair_found c.in_ok-left.ensures.read (pair_found c.in_ok-sign.ensures.read c.in_ok-rest.ensures.read refl) refl) refl)
