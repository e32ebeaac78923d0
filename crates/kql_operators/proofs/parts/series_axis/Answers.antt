use Rattle.std.proofs.Common.{refl}
use Rattle.kql_syntax.proofs.ReadingLaws.{pair_found, pair_refused, pair_refused_late, raises}
use Rattle.kql_operators.proofs.parts.series_axis.Goals as goal

pub returns-in_err-axis-clause-read : goal.returns-in_err-axis-clause-read
returns-in_err-axis-clause-read c = raises _ c.from_residual.ensures.1 c.in_err-axis.ensures.read (λ e r. pair_refused r refl)

pub returns-in_err-rest-clause-read : goal.returns-in_err-rest-clause-read
returns-in_err-rest-clause-read c = raises _ c.from_residual-in_err-rest.ensures.1 c.in_err-rest.ensures.read (λ e r. pair_refused_late c.in_ok-axis.ensures.read r refl)

pub returns-clause-read : goal.returns-clause-read
returns-clause-read c = pair_found c.in_ok-axis.ensures.read c.in_ok-rest.ensures.read refl
