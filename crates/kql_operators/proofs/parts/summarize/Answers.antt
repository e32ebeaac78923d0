use Rattle.std.proofs.Common.{refl}
use Rattle.kql_syntax.proofs.ReadingLaws.{makes_found, makes_refused, pair_found, pair_refused, pair_refused_late, raises}
use Rattle.kql_operators.proofs.parts.summarize.Goals as goal

pub returns-in_err-hints-clause-read : goal.returns-in_err-hints-clause-read
returns-in_err-hints-clause-read c = raises _ c.from_residual.ensures.1 c.in_err-hints.ensures.read (λ e r. makes_refused (pair_refused r refl))

pub returns-in_err-groups-clause-read : goal.returns-in_err-groups-clause-read
returns-in_err-groups-clause-read c = raises _ c.from_residual-in_err-groups.ensures.1 c.in_err-groups.ensures.read (λ e r. makes_refused (pair_refused_late c.in_ok-hints.ensures.read r refl))

pub returns-clause-read : goal.returns-clause-read
returns-clause-read c = makes_found (pair_found c.in_ok-hints.ensures.read c.in_ok-groups.ensures.read refl)
