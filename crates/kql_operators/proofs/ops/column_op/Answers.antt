use Rattle.std.proofs.Common.{refl}
use Rattle.kql_syntax.proofs.ReadingLaws.{makes_found, makes_refused, pair_found, pair_refused_late, either_left, either_right, either_refused_left, either_refused_right, found_other, missing_both, none_starts, raises}
use Rattle.kql_operators.proofs.ops.column_op.Goals as goal

pub returns-in_err-condition-clause-read : goal.returns-in_err-condition-clause-read
returns-in_err-condition-clause-read c = raises _ c.from_residual.ensures.1 c.in_err-condition.ensures.read (λ e r. (either_refused_left (makes_refused (pair_refused_late c.in-Some.ensures.some r refl)) (found_other c.in-Some.ensures.some refl refl) refl))

pub returns-in-Some-clause-read : goal.returns-in-Some-clause-read
returns-in-Some-clause-read c = (either_left (makes_found (pair_found c.in-Some.ensures.some c.in_ok-condition.ensures.read refl)) (found_other c.in-Some.ensures.some refl refl) refl)

pub returns-in_err-extended-clause-read : goal.returns-in_err-extended-clause-read
returns-in_err-extended-clause-read c = raises _ c.from_residual-in_err-extended.ensures.1 c.in_err-extended.ensures.read (λ e r. (either_refused_right (either_refused_left (makes_refused (pair_refused_late c.in-Some-take.ensures.some r refl)) (found_other c.in-Some-take.ensures.some refl refl) refl) (found_other c.in-Some-take.ensures.some refl refl) refl))

pub returns-in-Some-take-clause-read : goal.returns-in-Some-take-clause-read
returns-in-Some-take-clause-read c = (either_right (either_left (makes_found (pair_found c.in-Some-take.ensures.some c.in_ok-extended.ensures.read refl)) (found_other c.in-Some-take.ensures.some refl refl) refl) (found_other c.in-Some-take.ensures.some refl refl) refl)

pub returns-in_err-projected-clause-read : goal.returns-in_err-projected-clause-read
returns-in_err-projected-clause-read c = raises _ c.from_residual-in_err-projected.ensures.1 c.in_err-projected.ensures.read (λ e r. (either_refused_right (either_refused_right (either_refused_left (makes_refused (pair_refused_late c.in-Some-take-2.ensures.some r refl)) (found_other c.in-Some-take-2.ensures.some refl refl) refl) (found_other c.in-Some-take-2.ensures.some refl refl) refl) (found_other c.in-Some-take-2.ensures.some refl refl) refl))

pub returns-in-Some-take-2-clause-read : goal.returns-in-Some-take-2-clause-read
returns-in-Some-take-2-clause-read c = (either_right (either_right (either_left (makes_found (pair_found c.in-Some-take-2.ensures.some c.in_ok-projected.ensures.read refl)) (found_other c.in-Some-take-2.ensures.some refl refl) refl) (found_other c.in-Some-take-2.ensures.some refl refl) refl) (found_other c.in-Some-take-2.ensures.some refl refl) refl)

pub returns-in_err-added-clause-read : goal.returns-in_err-added-clause-read
returns-in_err-added-clause-read c = raises _ c.from_residual-in_err-added.ensures.1 c.in_err-added.ensures.read (λ e r. (either_refused_right (either_refused_right (either_refused_right (either_refused_left (makes_refused (pair_refused_late c.in-Some-take-3.ensures.some r refl)) (found_other c.in-Some-take-3.ensures.some refl refl) refl) (found_other c.in-Some-take-3.ensures.some refl refl) refl) (found_other c.in-Some-take-3.ensures.some refl refl) refl) (found_other c.in-Some-take-3.ensures.some refl refl) refl))

pub returns-in-Some-take-3-clause-read : goal.returns-in-Some-take-3-clause-read
returns-in-Some-take-3-clause-read c = (either_right (either_right (either_right (either_left (makes_found (pair_found c.in-Some-take-3.ensures.some c.in_ok-added.ensures.read refl)) (found_other c.in-Some-take-3.ensures.some refl refl) refl) (found_other c.in-Some-take-3.ensures.some refl refl) refl) (found_other c.in-Some-take-3.ensures.some refl refl) refl) (found_other c.in-Some-take-3.ensures.some refl refl) refl)

pub returns-in_err-away-clause-read : goal.returns-in_err-away-clause-read
returns-in_err-away-clause-read c = raises _ c.from_residual-in_err-away.ensures.1 c.in_err-away.ensures.read (λ e r. (either_refused_right (either_refused_right (either_refused_right (either_refused_right (either_refused_left (makes_refused (pair_refused_late c.in-Some-take-4.ensures.some r refl)) (found_other c.in-Some-take-4.ensures.some refl refl) refl) (found_other c.in-Some-take-4.ensures.some refl refl) refl) (found_other c.in-Some-take-4.ensures.some refl refl) refl) (found_other c.in-Some-take-4.ensures.some refl refl) refl) (found_other c.in-Some-take-4.ensures.some refl refl) refl))

pub returns-in-Some-take-4-clause-read : goal.returns-in-Some-take-4-clause-read
returns-in-Some-take-4-clause-read c = (either_right (either_right (either_right (either_right (either_left (makes_found (pair_found c.in-Some-take-4.ensures.some c.in_ok-away.ensures.read refl)) (found_other c.in-Some-take-4.ensures.some refl refl) refl) (found_other c.in-Some-take-4.ensures.some refl refl) refl) (found_other c.in-Some-take-4.ensures.some refl refl) refl) (found_other c.in-Some-take-4.ensures.some refl refl) refl) (found_other c.in-Some-take-4.ensures.some refl refl) refl)

pub returns-in_err-kept-clause-read : goal.returns-in_err-kept-clause-read
returns-in_err-kept-clause-read c = raises _ c.from_residual-in_err-kept.ensures.1 c.in_err-kept.ensures.read (λ e r. (either_refused_right (either_refused_right (either_refused_right (either_refused_right (either_refused_right (either_refused_left (makes_refused (pair_refused_late c.in-Some-take-5.ensures.some r refl)) (found_other c.in-Some-take-5.ensures.some refl refl) refl) (found_other c.in-Some-take-5.ensures.some refl refl) refl) (found_other c.in-Some-take-5.ensures.some refl refl) refl) (found_other c.in-Some-take-5.ensures.some refl refl) refl) (found_other c.in-Some-take-5.ensures.some refl refl) refl) (found_other c.in-Some-take-5.ensures.some refl refl) refl))

pub returns-in-Some-take-5-clause-read : goal.returns-in-Some-take-5-clause-read
returns-in-Some-take-5-clause-read c = (either_right (either_right (either_right (either_right (either_right (either_left (makes_found (pair_found c.in-Some-take-5.ensures.some c.in_ok-kept.ensures.read refl)) (found_other c.in-Some-take-5.ensures.some refl refl) refl) (found_other c.in-Some-take-5.ensures.some refl refl) refl) (found_other c.in-Some-take-5.ensures.some refl refl) refl) (found_other c.in-Some-take-5.ensures.some refl refl) refl) (found_other c.in-Some-take-5.ensures.some refl refl) refl) (found_other c.in-Some-take-5.ensures.some refl refl) refl)

pub returns-in_err-renamed-clause-read : goal.returns-in_err-renamed-clause-read
returns-in_err-renamed-clause-read c = raises _ c.from_residual-in_err-renamed.ensures.1 c.in_err-renamed.ensures.read (λ e r. (either_refused_right (either_refused_right (either_refused_right (either_refused_right (either_refused_right (either_refused_right (makes_refused (pair_refused_late c.in-Some-take-6.ensures.some r refl)) (found_other c.in-Some-take-6.ensures.some refl refl) refl) (found_other c.in-Some-take-6.ensures.some refl refl) refl) (found_other c.in-Some-take-6.ensures.some refl refl) refl) (found_other c.in-Some-take-6.ensures.some refl refl) refl) (found_other c.in-Some-take-6.ensures.some refl refl) refl) (found_other c.in-Some-take-6.ensures.some refl refl) refl))

pub returns-in-Some-take-6-clause-read : goal.returns-in-Some-take-6-clause-read
returns-in-Some-take-6-clause-read c = (either_right (either_right (either_right (either_right (either_right (either_right (makes_found (pair_found c.in-Some-take-6.ensures.some c.in_ok-renamed.ensures.read refl)) (found_other c.in-Some-take-6.ensures.some refl refl) refl) (found_other c.in-Some-take-6.ensures.some refl refl) refl) (found_other c.in-Some-take-6.ensures.some refl refl) refl) (found_other c.in-Some-take-6.ensures.some refl refl) refl) (found_other c.in-Some-take-6.ensures.some refl refl) refl) (found_other c.in-Some-take-6.ensures.some refl refl) refl)

pub returns-clause-read : goal.returns-clause-read
returns-clause-read c = record { place = none_starts (missing_both c.in_default.ensures.none (missing_both c.in_default-take.ensures.none (missing_both c.in_default-take-2.ensures.none (missing_both c.in_default-take-3.ensures.none (missing_both c.in_default-take-4.ensures.none (missing_both c.in_default-take-5.ensures.none c.in_default-take-6.ensures.none)))))) refl }
