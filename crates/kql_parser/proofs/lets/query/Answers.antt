use Rattle.std.proofs.Common.{refl}
use Rattle.kql_syntax.proofs.ReadingLaws.{makes_found, makes_refused, pair_found, pair_refused, pair_refused_late, raises}
use Rattle.kql_parser.proofs.lets.query.Goals as goal

pub returns-in_err-lets-clause-read : goal.returns-in_err-lets-clause-read
returns-in_err-lets-clause-read c = raises _ c.from_residual.ensures.1 c.in_err-lets.ensures.read (λ e r. makes_refused (pair_refused r refl))

pub returns-in_err-main-clause-read : goal.returns-in_err-main-clause-read
returns-in_err-main-clause-read c = raises _ c.from_residual-in_err-main.ensures.1 c.in_err-main.ensures.read (λ e r. makes_refused (pair_refused_late c.in_ok-lets.ensures.read r refl))

pub returns-clause-read : goal.returns-clause-read
returns-clause-read c = makes_found (pair_found c.in_ok-lets.ensures.read c.in_ok-main.ensures.read refl)
