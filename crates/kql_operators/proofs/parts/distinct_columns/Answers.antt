use Rattle.std.proofs.Common.{refl}
use Rattle.kql_syntax.proofs.ReadingLaws.{makes_found, makes_refused, either_left, either_right, either_refused_right, found_other, raises}
use Rattle.kql_operators.proofs.parts.distinct_columns.Goals as goal

pub returns-in-Some-clause-read : goal.returns-in-Some-clause-read
returns-in-Some-clause-read c = either_left (makes_found c.in-Some.ensures.some) (found_other c.in-Some.ensures.some refl refl) refl

pub returns-in_err-columns-clause-read : goal.returns-in_err-columns-clause-read
returns-in_err-columns-clause-read c = raises _ c.from_residual.ensures.1 c.in_err-columns.ensures.read (λ e r. either_refused_right (makes_refused r) c.in_default.ensures.none refl)

pub returns-clause-read : goal.returns-clause-read
returns-clause-read c = either_right (makes_found c.in_ok-columns.ensures.read) c.in_default.ensures.none refl
