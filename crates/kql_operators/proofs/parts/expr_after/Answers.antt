use Rattle.kql_syntax.proofs.ReadingLaws.{after_found, after_refused, after_none, raises}
use Rattle.kql_operators.proofs.parts.expr_after.Goals as goal

pub returns-in_err-_word-clause-read : goal.returns-in_err-_word-clause-read
returns-in_err-_word-clause-read c = raises _ c.from_residual.ensures.1 c.in_err-_word.ensures.read (λ e r. after_none r)

pub returns-in_err-value-clause-read : goal.returns-in_err-value-clause-read
returns-in_err-value-clause-read c = raises _ c.from_residual-in_err-value.ensures.1 c.in_err-value.ensures.read (λ e r. after_refused c.in_ok-_word.ensures.read r)

pub returns-clause-read : goal.returns-clause-read
returns-clause-read c = after_found c.in_ok-_word.ensures.read c.in_ok-value.ensures.read
