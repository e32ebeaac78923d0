use Rattle.std.proofs.Common.{refl}
use Rattle.kql_syntax.proofs.ReadingLaws.{pair_found, pair_refused, pair_refused_late, raises}
use Rattle.kql_parser.proofs.lets.let_rest.Goals as goal

pub returns-in_err-name-clause-read : goal.returns-in_err-name-clause-read
returns-in_err-name-clause-read c = raises _ c.from_residual.ensures.1 c.in_err-name.ensures.read (λ e r. pair_refused r refl)

pub returns-in_err-body-clause-read : goal.returns-in_err-body-clause-read
returns-in_err-body-clause-read c = raises _ c.from_residual-in_err-body.ensures.1 c.in_err-body.ensures.read (λ e r. pair_refused_late c.in_ok-name.ensures.read r refl)

pub returns-clause-read : goal.returns-clause-read
returns-clause-read c = pair_found c.in_ok-name.ensures.read c.in_ok-body.ensures.read refl
