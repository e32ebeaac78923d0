use Rattle.std.proofs.Common.{refl}
use Rattle.kql_syntax.proofs.ReadingLaws.{pair_found, pair_refused, pair_refused_late, raises}
use Rattle.kql_operators.proofs.parts.key_order.Goals as goal

pub returns-in_err-order-clause-read : goal.returns-in_err-order-clause-read
returns-in_err-order-clause-read c = raises _ c.from_residual.ensures.1 c.in_err-order.ensures.read (λ e r. pair_refused r refl)

pub returns-in_err-nulls-clause-read : goal.returns-in_err-nulls-clause-read
returns-in_err-nulls-clause-read c = raises _ c.from_residual-in_err-nulls.ensures.1 c.in_err-nulls.ensures.read (λ e r. pair_refused_late c.in_ok-order.ensures.read r refl)

pub returns-clause-read : goal.returns-clause-read
returns-clause-read c = pair_found c.in_ok-order.ensures.read c.in_ok-nulls.ensures.read refl
