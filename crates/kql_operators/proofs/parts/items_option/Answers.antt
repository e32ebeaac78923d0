use Rattle.std.proofs.Common.{refl}
use Rattle.kql_syntax.proofs.ReadingLaws.{makes_found, makes_refused, option_none, option_some, option_refused, found_starts, raises}
use Rattle.kql_syntax.proofs.BeginLaws.{items_begins}
use Rattle.kql_operators.proofs.parts.items_option.Goals as goal

pub returns-in_err-list-clause-read : goal.returns-in_err-list-clause-read
returns-in_err-list-clause-read c = raises _ c.from_residual.ensures.1 c.in_err-list.ensures.read (λ e r. makes_refused (option_refused (r.furthest _ (items_begins (found_starts c.in-Some.ensures.some refl))) r))

pub returns-in-Some-clause-read : goal.returns-in-Some-clause-read
returns-in-Some-clause-read c = makes_found (option_some c.in_ok-list.ensures.read refl)

pub returns-clause-read : goal.returns-clause-read
returns-clause-read c = rw c.new.ensures.empty (makes_found (option_none c.in_default.ensures.none refl))
