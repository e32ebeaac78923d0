use Rattle.kql_syntax.proofs.ReadingLaws.{raises}
use Rattle.kql_parser.proofs.LetBodies.{piped_found, piped_refused, unpiped_found, unpiped_refused}
use Rattle.kql_parser.proofs.lets.let_body.Goals as goal

pub returns-in_err-rows-clause-read : goal.returns-in_err-rows-clause-read
returns-in_err-rows-clause-read c = raises _ c.from_residual.ensures.1 c.in_err-rows.ensures.read (λ e r. piped_refused c.if-is_piped.ensures.yes r)

pub returns-then-is_piped-clause-read : goal.returns-then-is_piped-clause-read
returns-then-is_piped-clause-read c = piped_found c.if-is_piped.ensures.yes c.in_ok-rows.ensures.read

pub returns-in_err-value-clause-read : goal.returns-in_err-value-clause-read
returns-in_err-value-clause-read c = raises _ c.from_residual-in_err-value.ensures.1 c.in_err-value.ensures.read (λ e r. unpiped_refused c.if-is_piped.ensures.no r)

pub returns-clause-read : goal.returns-clause-read
returns-clause-read c = rw c.in_ok-body.ensures.body (unpiped_found c.if-is_piped.ensures.no c.in_ok-value.ensures.read)
