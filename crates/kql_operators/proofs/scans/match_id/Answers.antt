use Rattle.std.proofs.Common.{refl, arith}
use Rattle.kql_syntax.proofs.ReadingLaws.{after_found, after_refused, after_none, option_none, option_some, option_refused, raises, refused_after}
use Rattle.kql_operators.proofs.scans.match_id.Goals as goal

pub returns-in_err-_sign-clause-read : goal.returns-in_err-_sign-clause-read
returns-in_err-_sign-clause-read c = raises _ c.from_residual.ensures.1 c.in_err-_sign.ensures.read (λ e r. (option_refused (refused_after r) (after_refused c.in-Some.ensures.some (after_none r))))

pub returns-in_err-name-clause-read : goal.returns-in_err-name-clause-read
returns-in_err-name-clause-read c = raises _ c.from_residual-in_err-name.ensures.1 c.in_err-name.ensures.read (λ e r. (option_refused (omega (arith, refused_after r, c.in_ok-_sign.ensures.within.0)) (after_refused c.in-Some.ensures.some (after_refused c.in_ok-_sign.ensures.read r))))

pub returns-in-Some-clause-read : goal.returns-in-Some-clause-read
returns-in-Some-clause-read c = (option_some (after_found c.in-Some.ensures.some (after_found c.in_ok-_sign.ensures.read c.in_ok-name.ensures.read)) refl)

pub returns-clause-read : goal.returns-clause-read
returns-clause-read c = (option_none c.in_default.ensures.none refl)
