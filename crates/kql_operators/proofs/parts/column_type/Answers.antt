use Rattle.std.proofs.Common.{refl}
use Rattle.kql_syntax.proofs.ReadingLaws.{after_found, after_refused, option_none, option_some, option_refused, raises, refused_after}
use Rattle.kql_operators.proofs.parts.column_type.Goals as goal

pub returns-in_err-kind-clause-read : goal.returns-in_err-kind-clause-read
returns-in_err-kind-clause-read c = raises _ c.from_residual.ensures.1 c.in_err-kind.ensures.read (λ e r. (option_refused (refused_after r) (after_refused c.in-Some.ensures.some r)))

pub returns-in-Some-clause-read : goal.returns-in-Some-clause-read
returns-in-Some-clause-read c = (option_some (after_found c.in-Some.ensures.some c.in_ok-kind.ensures.read) refl)

pub returns-clause-read : goal.returns-clause-read
returns-clause-read c = (option_none c.in_default.ensures.none refl)
