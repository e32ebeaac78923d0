use Rattle.std.proofs.Common.{refl}
use Rattle.kql_syntax.proofs.ReadingLaws.{makes_found, makes_refused, pair_found, pair_refused, pair_refused_late, raises}
use Rattle.kql_operators.proofs.parts.range.Goals as goal

pub returns-in_err-column-clause-read : goal.returns-in_err-column-clause-read
returns-in_err-column-clause-read c = raises _ c.from_residual.ensures.1 c.in_err-column.ensures.read (λ e r. makes_refused (pair_refused r refl))

pub returns-in_err-rest-clause-read : goal.returns-in_err-rest-clause-read
returns-in_err-rest-clause-read c = raises _ c.from_residual-in_err-rest.ensures.1 c.in_err-rest.ensures.read (λ e r. makes_refused (pair_refused_late c.in_ok-column.ensures.read r refl))

pub returns-clause-read : goal.returns-clause-read
returns-clause-read c = makes_found (pair_found c.in_ok-column.ensures.read c.in_ok-rest.ensures.read refl)
