use Rattle.std.proofs.Common.{refl}
use Rattle.kql_syntax.proofs.ReadingLaws.{pair_found, pair_refused, pair_refused_late, raises}
use Rattle.kql_operators.proofs.scans.decl_rest.Goals as goal

pub returns-in_err-kind-clause-read : goal.returns-in_err-kind-clause-read
returns-in_err-kind-clause-read c = raises _ c.from_residual.ensures.1 c.in_err-kind.ensures.read (λ e r. pair_refused r refl)

pub returns-in_err-default-clause-read : goal.returns-in_err-default-clause-read
returns-in_err-default-clause-read c = raises _ c.from_residual-in_err-default.ensures.1 c.in_err-default.ensures.read (λ e r. pair_refused_late c.in_ok-kind.ensures.read r refl)

pub returns-clause-read : goal.returns-clause-read
returns-clause-read c = pair_found c.in_ok-kind.ensures.read c.in_ok-default.ensures.read refl
