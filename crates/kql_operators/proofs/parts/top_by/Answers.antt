use Rattle.std.proofs.Common.{refl}
use Rattle.kql_syntax.proofs.ReadingLaws.{pair_found, pair_refused, pair_refused_late, passes, raises}
use Rattle.kql_operators.proofs.parts.top_by.Goals as goal

pub returns-in_err-rows-clause-read : goal.returns-in_err-rows-clause-read
returns-in_err-rows-clause-read c = raises _ c.from_residual.ensures.1 c.in_err-rows.ensures.read (λ e r. pair_refused r refl)

pub returns-in-Err-clause-read : goal.returns-in-Err-clause-read
returns-in-Err-clause-read c = passes (λ e r. pair_refused_late c.in_ok-rows.ensures.read r refl) c.in-Err.ensures.read

pub returns-in-Ok-clause-read : goal.returns-in-Ok-clause-read
returns-in-Ok-clause-read c = pair_found c.in_ok-rows.ensures.read c.in-Ok.ensures.read refl
