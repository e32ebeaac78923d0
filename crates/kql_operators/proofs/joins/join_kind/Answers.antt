use Rattle.std.proofs.Common.{refl, arith}
use Rattle.kql_syntax.proofs.ReadingLaws.{pair_found, pair_refused, pair_refused_late, after_found, after_refused, after_none, option_none, option_some, option_refused, raises, refused_after}
use Rattle.kql_operators.proofs.joins.join_kind.Goals as goal

pub returns-in_err-_sign-clause-read : goal.returns-in_err-_sign-clause-read
returns-in_err-_sign-clause-read c = raises _ c.from_residual.ensures.1 c.in_err-_sign.ensures.read (λ e r. option_refused (refused_after r) (pair_refused (after_refused c.in-Some.ensures.some (after_none r)) refl))

pub returns-in_err-kind-clause-read : goal.returns-in_err-kind-clause-read
returns-in_err-kind-clause-read c = raises _ c.from_residual-in_err-kind.ensures.1 c.in_err-kind.ensures.read (λ e r. option_refused (omega (arith, refused_after r, c.in_ok-_sign.ensures.within.0)) (pair_refused (after_refused c.in-Some.ensures.some (after_refused c.in_ok-_sign.ensures.read r)) refl))

pub returns-in_err-hints-clause-read : goal.returns-in_err-hints-clause-read
returns-in_err-hints-clause-read c = raises _ c.from_residual-in_err-hints.ensures.1 c.in_err-hints.ensures.read (λ e r. option_refused (omega (arith, refused_after r, c.in_ok-_sign.ensures.within.0, c.in_ok-kind.ensures.within.0)) (pair_refused_late (after_found c.in-Some.ensures.some (after_found c.in_ok-_sign.ensures.read c.in_ok-kind.ensures.read)) r refl))

pub returns-in-Some-clause-read : goal.returns-in-Some-clause-read
returns-in-Some-clause-read c = option_some (pair_found (after_found c.in-Some.ensures.some (after_found c.in_ok-_sign.ensures.read c.in_ok-kind.ensures.read)) c.in_ok-hints.ensures.read refl) refl

pub returns-clause-read : goal.returns-clause-read
returns-clause-read c = option_none c.in_default.ensures.none refl
