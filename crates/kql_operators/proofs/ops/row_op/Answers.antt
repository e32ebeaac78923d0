use Rattle.std.proofs.Common.{refl}
use Rattle.kql_syntax.proofs.ReadingLaws.{makes_found, makes_refused, pair_found, pair_refused_late, either_left, either_right, either_refused_left, either_refused_right, found_other, missing_both, none_starts, raises}
use Rattle.kql_operators.proofs.ops.row_op.Goals as goal

pub returns-in_err-number-clause-read : goal.returns-in_err-number-clause-read
returns-in_err-number-clause-read c = raises _ c.from_residual.ensures.1 c.in_err-number.ensures.read (λ e r. (either_refused_left (makes_refused (pair_refused_late c.in-Some.ensures.some r refl)) (found_other c.in-Some.ensures.some refl refl) refl))

pub returns-in-Some-clause-read : goal.returns-in-Some-clause-read
returns-in-Some-clause-read c = (either_left (makes_found (pair_found c.in-Some.ensures.some c.in_ok-number.ensures.read refl)) (found_other c.in-Some.ensures.some refl refl) refl)

pub returns-in_err-limit-clause-read : goal.returns-in_err-limit-clause-read
returns-in_err-limit-clause-read c = raises _ c.from_residual-in_err-limit.ensures.1 c.in_err-limit.ensures.read (λ e r. (either_refused_right (either_refused_left (makes_refused (pair_refused_late c.in-Some-take.ensures.some r refl)) (found_other c.in-Some-take.ensures.some refl refl) refl) (found_other c.in-Some-take.ensures.some refl refl) refl))

pub returns-in-Some-take-clause-read : goal.returns-in-Some-take-clause-read
returns-in-Some-take-clause-read c = (either_right (either_left (makes_found (pair_found c.in-Some-take.ensures.some c.in_ok-limit.ensures.read refl)) (found_other c.in-Some-take.ensures.some refl refl) refl) (found_other c.in-Some-take.ensures.some refl refl) refl)

pub returns-in-Some-take-2-clause-read : goal.returns-in-Some-take-2-clause-read
returns-in-Some-take-2-clause-read c = (either_right (either_right (either_left (makes_found c.in-Some-take-2.ensures.some) (found_other c.in-Some-take-2.ensures.some refl refl) refl) (found_other c.in-Some-take-2.ensures.some refl refl) refl) (found_other c.in-Some-take-2.ensures.some refl refl) refl)

pub returns-in_err-keys-clause-read : goal.returns-in_err-keys-clause-read
returns-in_err-keys-clause-read c = raises _ c.from_residual-in_err-keys.ensures.1 c.in_err-keys.ensures.read (λ e r. (either_refused_right (either_refused_right (either_refused_right (either_refused_left (makes_refused (pair_refused_late c.in-Some-take-3.ensures.some r refl)) (found_other c.in-Some-take-3.ensures.some refl refl) refl) (found_other c.in-Some-take-3.ensures.some refl refl) refl) (found_other c.in-Some-take-3.ensures.some refl refl) refl) (found_other c.in-Some-take-3.ensures.some refl refl) refl))

pub returns-in-Some-take-3-clause-read : goal.returns-in-Some-take-3-clause-read
returns-in-Some-take-3-clause-read c = (either_right (either_right (either_right (either_left (makes_found (pair_found c.in-Some-take-3.ensures.some c.in_ok-keys.ensures.read refl)) (found_other c.in-Some-take-3.ensures.some refl refl) refl) (found_other c.in-Some-take-3.ensures.some refl refl) refl) (found_other c.in-Some-take-3.ensures.some refl refl) refl) (found_other c.in-Some-take-3.ensures.some refl refl) refl)

pub returns-in_err-order-clause-read : goal.returns-in_err-order-clause-read
returns-in_err-order-clause-read c = raises _ c.from_residual-in_err-order.ensures.1 c.in_err-order.ensures.read (λ e r. (either_refused_right (either_refused_right (either_refused_right (either_refused_right (either_refused_left (makes_refused (pair_refused_late c.in-Some-take-4.ensures.some r refl)) (found_other c.in-Some-take-4.ensures.some refl refl) refl) (found_other c.in-Some-take-4.ensures.some refl refl) refl) (found_other c.in-Some-take-4.ensures.some refl refl) refl) (found_other c.in-Some-take-4.ensures.some refl refl) refl) (found_other c.in-Some-take-4.ensures.some refl refl) refl))

pub returns-in-Some-take-4-clause-read : goal.returns-in-Some-take-4-clause-read
returns-in-Some-take-4-clause-read c = (either_right (either_right (either_right (either_right (either_left (makes_found (pair_found c.in-Some-take-4.ensures.some c.in_ok-order.ensures.read refl)) (found_other c.in-Some-take-4.ensures.some refl refl) refl) (found_other c.in-Some-take-4.ensures.some refl refl) refl) (found_other c.in-Some-take-4.ensures.some refl refl) refl) (found_other c.in-Some-take-4.ensures.some refl refl) refl) (found_other c.in-Some-take-4.ensures.some refl refl) refl)

pub returns-in_err-top-clause-read : goal.returns-in_err-top-clause-read
returns-in_err-top-clause-read c = raises _ c.from_residual-in_err-top.ensures.1 c.in_err-top.ensures.read (λ e r. (either_refused_right (either_refused_right (either_refused_right (either_refused_right (either_refused_right (either_refused_left (makes_refused (pair_refused_late c.in-Some-take-5.ensures.some r refl)) (found_other c.in-Some-take-5.ensures.some refl refl) refl) (found_other c.in-Some-take-5.ensures.some refl refl) refl) (found_other c.in-Some-take-5.ensures.some refl refl) refl) (found_other c.in-Some-take-5.ensures.some refl refl) refl) (found_other c.in-Some-take-5.ensures.some refl refl) refl) (found_other c.in-Some-take-5.ensures.some refl refl) refl))

pub returns-in-Some-take-5-clause-read : goal.returns-in-Some-take-5-clause-read
returns-in-Some-take-5-clause-read c = rw c.in_ok-both.ensures.value (either_right (either_right (either_right (either_right (either_right (either_left (makes_found (pair_found c.in-Some-take-5.ensures.some c.in_ok-top.ensures.read refl)) (found_other c.in-Some-take-5.ensures.some refl refl) refl) (found_other c.in-Some-take-5.ensures.some refl refl) refl) (found_other c.in-Some-take-5.ensures.some refl refl) refl) (found_other c.in-Some-take-5.ensures.some refl refl) refl) (found_other c.in-Some-take-5.ensures.some refl refl) refl) (found_other c.in-Some-take-5.ensures.some refl refl) refl)

pub returns-in_err-columns-clause-read : goal.returns-in_err-columns-clause-read
returns-in_err-columns-clause-read c = raises _ c.from_residual-in_err-columns.ensures.1 c.in_err-columns.ensures.read (λ e r. (either_refused_right (either_refused_right (either_refused_right (either_refused_right (either_refused_right (either_refused_right (makes_refused (pair_refused_late c.in-Some-take-6.ensures.some r refl)) (found_other c.in-Some-take-6.ensures.some refl refl) refl) (found_other c.in-Some-take-6.ensures.some refl refl) refl) (found_other c.in-Some-take-6.ensures.some refl refl) refl) (found_other c.in-Some-take-6.ensures.some refl refl) refl) (found_other c.in-Some-take-6.ensures.some refl refl) refl) (found_other c.in-Some-take-6.ensures.some refl refl) refl))

pub returns-in-Some-take-6-clause-read : goal.returns-in-Some-take-6-clause-read
returns-in-Some-take-6-clause-read c = (either_right (either_right (either_right (either_right (either_right (either_right (makes_found (pair_found c.in-Some-take-6.ensures.some c.in_ok-columns.ensures.read refl)) (found_other c.in-Some-take-6.ensures.some refl refl) refl) (found_other c.in-Some-take-6.ensures.some refl refl) refl) (found_other c.in-Some-take-6.ensures.some refl refl) refl) (found_other c.in-Some-take-6.ensures.some refl refl) refl) (found_other c.in-Some-take-6.ensures.some refl refl) refl) (found_other c.in-Some-take-6.ensures.some refl refl) refl)

pub returns-clause-read : goal.returns-clause-read
returns-clause-read c = record { place = none_starts (missing_both c.in_default.ensures.none (missing_both c.in_default-take.ensures.none (missing_both c.in_default-take-2.ensures.none (missing_both c.in_default-take-3.ensures.none (missing_both c.in_default-take-4.ensures.none (missing_both c.in_default-take-5.ensures.none c.in_default-take-6.ensures.none)))))) refl }
