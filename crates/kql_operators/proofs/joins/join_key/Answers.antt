use Rattle.std.proofs.Common.{refl}
use Rattle.kql_syntax.proofs.ReadingLaws.{makes_found, makes_refused, either_left, either_right, either_refused_left, either_refused_right, found_other, raises}
use Rattle.kql_operators.proofs.joins.join_key.Goals as goal

pub returns-in_err-pair-clause-read : goal.returns-in_err-pair-clause-read
returns-in_err-pair-clause-read c = raises _ c.from_residual.ensures.1 c.in_err-pair.ensures.read (λ e r. either_refused_right (makes_refused r) (found_other c.in-Some.ensures.some refl refl) refl)

pub returns-in-Some-clause-read : goal.returns-in-Some-clause-read
returns-in-Some-clause-read c = either_right (makes_found c.in_ok-pair.ensures.read) (found_other c.in-Some.ensures.some refl refl) refl

pub returns-in_err-column-clause-read : goal.returns-in_err-column-clause-read
returns-in_err-column-clause-read c = raises _ c.from_residual-in_err-column.ensures.1 c.in_err-column.ensures.read (λ e r. either_refused_left (makes_refused r) c.in_default.ensures.none refl)

pub returns-clause-read : goal.returns-clause-read
returns-clause-read c = either_left (makes_found c.in_ok-column.ensures.read) c.in_default.ensures.none refl
