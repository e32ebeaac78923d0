use Rattle.std.proofs.Common.{refl}
use Rattle.kql_syntax.proofs.ReadingLaws.{makes_found, makes_refused, pair_found, pair_refused, pair_refused_late, either_left, either_right, either_refused_left, either_refused_right, found_other, missing_both, none_starts, raises}
use Rattle.kql_operators.proofs.ops.group_op.Goals as goal

pub returns-in_err-summary-clause-read : goal.returns-in_err-summary-clause-read
returns-in_err-summary-clause-read c = raises _ c.from_residual.ensures.1 c.in_err-summary.ensures.read (λ e r. (either_refused_left (makes_refused (pair_refused_late c.in-Some.ensures.some r refl)) (found_other c.in-Some.ensures.some refl refl) refl))

pub returns-in-Some-clause-read : goal.returns-in-Some-clause-read
returns-in-Some-clause-read c = (either_left (makes_found (pair_found c.in-Some.ensures.some c.in_ok-summary.ensures.read refl)) (found_other c.in-Some.ensures.some refl refl) refl)

pub returns-in_err-series-clause-read : goal.returns-in_err-series-clause-read
returns-in_err-series-clause-read c = raises _ c.from_residual-in_err-series.ensures.1 c.in_err-series.ensures.read (λ e r. (either_refused_right (either_refused_left (makes_refused (pair_refused_late c.in-Some-take.ensures.some r refl)) (found_other c.in-Some-take.ensures.some refl refl) refl) (found_other c.in-Some-take.ensures.some refl refl) refl))

pub returns-in-Some-take-clause-read : goal.returns-in-Some-take-clause-read
returns-in-Some-take-clause-read c = rw c.in_ok-boxed.ensures.value ((either_right (either_left (makes_found (pair_found c.in-Some-take.ensures.some c.in_ok-series.ensures.read refl)) (found_other c.in-Some-take.ensures.some refl refl) refl) (found_other c.in-Some-take.ensures.some refl refl) refl))

pub returns-in_err-kind-clause-read : goal.returns-in_err-kind-clause-read
returns-in_err-kind-clause-read c = raises _ c.from_residual-in_err-kind.ensures.1 c.in_err-kind.ensures.read (λ e r. (either_refused_right (either_refused_right (either_refused_left (makes_refused (pair_refused_late c.in-Some-take-2.ensures.some (pair_refused r refl) refl)) (found_other c.in-Some-take-2.ensures.some refl refl) refl) (found_other c.in-Some-take-2.ensures.some refl refl) refl) (found_other c.in-Some-take-2.ensures.some refl refl) refl))

pub returns-in_err-list-clause-read : goal.returns-in_err-list-clause-read
returns-in_err-list-clause-read c = raises _ c.from_residual-in_err-list.ensures.1 c.in_err-list.ensures.read (λ e r. (either_refused_right (either_refused_right (either_refused_left (makes_refused (pair_refused_late c.in-Some-take-2.ensures.some (pair_refused_late c.in_ok-kind.ensures.read r refl) refl)) (found_other c.in-Some-take-2.ensures.some refl refl) refl) (found_other c.in-Some-take-2.ensures.some refl refl) refl) (found_other c.in-Some-take-2.ensures.some refl refl) refl))

pub returns-in-Some-take-2-clause-read : goal.returns-in-Some-take-2-clause-read
returns-in-Some-take-2-clause-read c = (either_right (either_right (either_left (makes_found (pair_found c.in-Some-take-2.ensures.some (pair_found c.in_ok-kind.ensures.read c.in_ok-list.ensures.read refl) refl)) (found_other c.in-Some-take-2.ensures.some refl refl) refl) (found_other c.in-Some-take-2.ensures.some refl refl) refl) (found_other c.in-Some-take-2.ensures.some refl refl) refl)

pub returns-in_err-parse_kind-clause-read : goal.returns-in_err-parse_kind-clause-read
returns-in_err-parse_kind-clause-read c = raises _ c.from_residual-in_err-parse_kind.ensures.1 c.in_err-parse_kind.ensures.read (λ e r. (either_refused_right (either_refused_right (either_refused_right (makes_refused (pair_refused_late c.in-Some-take-3.ensures.some (pair_refused r refl) refl)) (found_other c.in-Some-take-3.ensures.some refl refl) refl) (found_other c.in-Some-take-3.ensures.some refl refl) refl) (found_other c.in-Some-take-3.ensures.some refl refl) refl))

pub returns-in_err-rest-clause-read : goal.returns-in_err-rest-clause-read
returns-in_err-rest-clause-read c = raises _ c.from_residual-in_err-rest.ensures.1 c.in_err-rest.ensures.read (λ e r. (either_refused_right (either_refused_right (either_refused_right (makes_refused (pair_refused_late c.in-Some-take-3.ensures.some (pair_refused_late c.in_ok-parse_kind.ensures.read r refl) refl)) (found_other c.in-Some-take-3.ensures.some refl refl) refl) (found_other c.in-Some-take-3.ensures.some refl refl) refl) (found_other c.in-Some-take-3.ensures.some refl refl) refl))

pub returns-in-Some-take-3-clause-read : goal.returns-in-Some-take-3-clause-read
returns-in-Some-take-3-clause-read c = (either_right (either_right (either_right (makes_found (pair_found c.in-Some-take-3.ensures.some (pair_found c.in_ok-parse_kind.ensures.read c.in_ok-rest.ensures.read refl) refl)) (found_other c.in-Some-take-3.ensures.some refl refl) refl) (found_other c.in-Some-take-3.ensures.some refl refl) refl) (found_other c.in-Some-take-3.ensures.some refl refl) refl)

pub returns-clause-read : goal.returns-clause-read
returns-clause-read c = record { place = none_starts (missing_both c.in_default.ensures.none (missing_both c.in_default-take.ensures.none (missing_both c.in_default-take-2.ensures.none c.in_default-take-3.ensures.none))) refl }
