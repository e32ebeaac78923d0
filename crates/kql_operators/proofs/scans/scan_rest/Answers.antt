use Rattle.std.proofs.Common.{refl}
use Rattle.kql_syntax.proofs.ReadingLaws.{pair_found, pair_refused, pair_refused_late, raises}
use Rattle.kql_operators.proofs.scans.scan_rest.Goals as goal

pub returns-in_err-declared-clause-read : goal.returns-in_err-declared-clause-read
returns-in_err-declared-clause-read c = raises _ c.from_residual.ensures.1 c.in_err-declared.ensures.read (λ e r. pair_refused r refl)

pub returns-in_err-steps-clause-read : goal.returns-in_err-steps-clause-read
returns-in_err-steps-clause-read c = raises _ c.from_residual-in_err-steps.ensures.1 c.in_err-steps.ensures.read (λ e r. pair_refused_late c.in_ok-declared.ensures.read r refl)

pub returns-clause-read : goal.returns-clause-read
returns-clause-read c = pair_found c.in_ok-declared.ensures.read c.in_ok-steps.ensures.read refl
