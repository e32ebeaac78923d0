use Rattle.std.proofs.Common.{refl}
use Rattle.kql_syntax.proofs.ReadingLaws.{before_found, before_refused, before_none, passes, raises}
use Rattle.kql_parser.proofs.lets.let_end.Goals as goal

pub returns-in_err-body-clause-read : goal.returns-in_err-body-clause-read
returns-in_err-body-clause-read c = raises _ c.from_residual.ensures.1 c.in_err-body.ensures.read (λ e r. before_refused r refl)

pub returns-in-Err-clause-read : goal.returns-in-Err-clause-read
returns-in-Err-clause-read c = passes (λ e r. before_none c.in_ok-body.ensures.read r refl) c.in-Err.ensures.read

pub returns-in-Ok-clause-read : goal.returns-in-Ok-clause-read
returns-in-Ok-clause-read c = before_found c.in_ok-body.ensures.read c.in-Ok.ensures.read refl
