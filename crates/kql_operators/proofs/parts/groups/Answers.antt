use Rattle.std.proofs.Common.{refl}
use Rattle.kql_syntax.proofs.ReadingLaws.{makes_found, makes_refused, pair_found, pair_refused, pair_refused_late, after_found, after_refused, either_left, either_right, either_refused_left, either_refused_right, found_other, raises}
use Rattle.kql_operators.proofs.parts.groups.Goals as goal

pub returns-in_err-keys-clause-read : goal.returns-in_err-keys-clause-read
returns-in_err-keys-clause-read c = raises _ c.from_residual.ensures.1 c.in_err-keys.ensures.read (λ e r. either_refused_right (makes_refused (after_refused c.in-Some.ensures.some r)) (found_other c.in-Some.ensures.some refl refl) refl)

pub returns-in-Some-clause-read : goal.returns-in-Some-clause-read
returns-in-Some-clause-read c = either_right (makes_found (after_found c.in-Some.ensures.some c.in_ok-keys.ensures.read)) (found_other c.in-Some.ensures.some refl refl) refl

pub returns-in_err-items-clause-read : goal.returns-in_err-items-clause-read
returns-in_err-items-clause-read c = raises _ c.from_residual-in_err-items.ensures.1 c.in_err-items.ensures.read (λ e r. either_refused_left (makes_refused (pair_refused r refl)) c.in_default.ensures.none refl)

pub returns-in_err-keys-2-clause-read : goal.returns-in_err-keys-2-clause-read
returns-in_err-keys-2-clause-read c = raises _ c.from_residual-in_err-keys-2.ensures.1 c.in_err-keys-2.ensures.read (λ e r. either_refused_left (makes_refused (pair_refused_late c.in_ok-items.ensures.read r refl)) c.in_default.ensures.none refl)

pub returns-clause-read : goal.returns-clause-read
returns-clause-read c = either_left (makes_found (pair_found c.in_ok-items.ensures.read c.in_ok-keys-2.ensures.read refl)) c.in_default.ensures.none refl
