use Rattle.std.proofs.Common.{refl}
use Rattle.kql_syntax.proofs.ReadingLaws.{pair_found, pair_refused, pair_refused_late, raises}
use Rattle.kql_operators.proofs.joins.right_side.Goals as goal

pub returns-in_err-place-clause-read : goal.returns-in_err-place-clause-read
returns-in_err-place-clause-read c = raises _ c.from_residual.ensures.1 c.in_err-place.ensures.read (λ e r. pair_refused r refl)

pub returns-in_err-right-clause-read : goal.returns-in_err-right-clause-read
returns-in_err-right-clause-read c = raises _ c.from_residual-in_err-right.ensures.1 c.in_err-right.ensures.read (λ e r. pair_refused_late c.in_ok-place.ensures.read r refl)

pub returns-clause-read : goal.returns-clause-read
returns-clause-read c = pair_found c.in_ok-place.ensures.read c.in_ok-right.ensures.read refl
