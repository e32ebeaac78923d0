use Rattle.kql_syntax.proofs.ReadingLaws.{after_found, after_refused, after_none, raises}
use Rattle.kql_operators.proofs.parts.word_after.Goals as goal

pub returns-in_err-_sign-clause-read : goal.returns-in_err-_sign-clause-read
returns-in_err-_sign-clause-read c = raises _ c.from_residual.ensures.1 c.in_err-_sign.ensures.read (λ e r. after_none r)

pub returns-in_err-text-clause-read : goal.returns-in_err-text-clause-read
returns-in_err-text-clause-read c = raises _ c.from_residual-in_err-text.ensures.1 c.in_err-text.ensures.read (λ e r. after_refused c.in_ok-_sign.ensures.read r)

pub returns-clause-read : goal.returns-clause-read
returns-clause-read c = after_found c.in_ok-_sign.ensures.read c.in_ok-text.ensures.read
