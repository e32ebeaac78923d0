use Rattle.std.proofs.Common.{refl}
use Rattle.kql_syntax.proofs.ReadingLaws.{makes_found, makes_refused, pair_found, pair_refused, before_found, before_refused, before_none, passes, raises}
use Rattle.kql_parser.proofs.lets.pipe_end.Goals as goal

pub returns-in_err-main-clause-read : goal.returns-in_err-main-clause-read
returns-in_err-main-clause-read c = raises _ c.from_residual.ensures.1 c.in_err-main.ensures.read (λ e r. before_refused (makes_refused (pair_refused r refl)) refl)

pub returns-in-Err-clause-read : goal.returns-in-Err-clause-read
returns-in-Err-clause-read c = passes (λ e r. before_none (makes_found (pair_found c.in_ok-main.ensures.read c.semicolon-semicolon.ensures.read refl)) r refl) c.in-Err.ensures.read

pub returns-in-Ok-clause-read : goal.returns-in-Ok-clause-read
returns-in-Ok-clause-read c = before_found (makes_found (pair_found c.in_ok-main.ensures.read c.semicolon-semicolon.ensures.read refl)) c.in-Ok.ensures.read refl
