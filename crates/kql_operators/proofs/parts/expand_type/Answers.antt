use Rattle.std.proofs.Common.{refl, arith}
use Rattle.kql_syntax.proofs.ReadingLaws.{after_found, after_refused, after_none, before_found, before_refused, before_none, option_none, option_some, option_refused, raises, refused_after}
use Rattle.kql_operators.proofs.parts.expand_type.Goals as goal

pub returns-in_err-_typeof-clause-read : goal.returns-in_err-_typeof-clause-read
returns-in_err-_typeof-clause-read c = raises _ c.from_residual.ensures.1 c.in_err-_typeof.ensures.read (λ e r. (option_refused (refused_after r) (after_refused c.in-Some.ensures.some (after_none r))))

pub returns-in_err-_open-clause-read : goal.returns-in_err-_open-clause-read
returns-in_err-_open-clause-read c = raises _ c.from_residual-in_err-_open.ensures.1 c.in_err-_open.ensures.read (λ e r. (option_refused (omega (arith, refused_after r, c.in_ok-_typeof.ensures.within.0)) (after_refused c.in-Some.ensures.some (after_refused c.in_ok-_typeof.ensures.read (after_none r)))))

pub returns-in_err-kind-clause-read : goal.returns-in_err-kind-clause-read
returns-in_err-kind-clause-read c = raises _ c.from_residual-in_err-kind.ensures.1 c.in_err-kind.ensures.read (λ e r. (option_refused (omega (arith, refused_after r, c.in_ok-_typeof.ensures.within.0, c.in_ok-_open.ensures.within.0)) (after_refused c.in-Some.ensures.some (after_refused c.in_ok-_typeof.ensures.read (after_refused c.in_ok-_open.ensures.read (before_refused r refl))))))

pub returns-in_err-_close-clause-read : goal.returns-in_err-_close-clause-read
returns-in_err-_close-clause-read c = raises _ c.from_residual-in_err-_close.ensures.1 c.in_err-_close.ensures.read (λ e r. (option_refused (omega (arith, refused_after r, c.in_ok-_typeof.ensures.within.0, c.in_ok-_open.ensures.within.0, c.in_ok-kind.ensures.within.0)) (after_refused c.in-Some.ensures.some (after_refused c.in_ok-_typeof.ensures.read (after_refused c.in_ok-_open.ensures.read (before_none c.in_ok-kind.ensures.read r refl))))))

pub returns-in-Some-clause-read : goal.returns-in-Some-clause-read
returns-in-Some-clause-read c = (option_some (after_found c.in-Some.ensures.some (after_found c.in_ok-_typeof.ensures.read (after_found c.in_ok-_open.ensures.read (before_found c.in_ok-kind.ensures.read c.in_ok-_close.ensures.read refl)))) refl)

pub returns-clause-read : goal.returns-clause-read
returns-clause-read c = (option_none c.in_default.ensures.none refl)
