use Rattle.std.proofs.Common.{refl}
use Rattle.kql_syntax.proofs.ReadingLaws.{makes_found, makes_refused, pair_found, pair_refused, pair_refused_late, either_left, either_right, either_refused_right, found_other, raises}
use Rattle.kql_operators.proofs.parts.pattern.Goals as goal

pub returns-in-Some-clause-read : goal.returns-in-Some-clause-read
returns-in-Some-clause-read c = either_left (makes_found c.in-Some.ensures.some) (found_other c.in-Some.ensures.some refl refl) refl

pub returns-in-Some-token_at-clause-read : goal.returns-in-Some-token_at-clause-read
returns-in-Some-token_at-clause-read c = rw c.in_ok-text_in.ensures.text (either_right (either_left (makes_found c.in-Some-token_at.ensures.some) (found_other c.in-Some-token_at.ensures.some refl refl) refl) (found_other c.in-Some-token_at.ensures.some refl refl) refl)

pub returns-in_err-name-clause-read : goal.returns-in_err-name-clause-read
returns-in_err-name-clause-read c = raises _ c.from_residual-in_err-name.ensures.1 c.in_err-name.ensures.read (λ e r. either_refused_right (either_refused_right (makes_refused (pair_refused r refl)) c.in_default-token_at.ensures.none refl) c.in_default.ensures.none refl)

pub returns-in_err-kind-clause-read : goal.returns-in_err-kind-clause-read
returns-in_err-kind-clause-read c = raises _ c.from_residual-in_err-kind.ensures.1 c.in_err-kind.ensures.read (λ e r. either_refused_right (either_refused_right (makes_refused (pair_refused_late c.in_ok-name.ensures.read r refl)) c.in_default-token_at.ensures.none refl) c.in_default.ensures.none refl)

pub returns-clause-read : goal.returns-clause-read
returns-clause-read c = either_right (either_right (makes_found (pair_found c.in_ok-name.ensures.read c.in_ok-kind.ensures.read refl)) c.in_default-token_at.ensures.none refl) c.in_default.ensures.none refl
