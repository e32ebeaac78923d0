use Rattle.std.proofs.Common.{refl, arith}
use Rattle.kql_syntax.proofs.ReadingLaws.{makes_found, makes_refused, pair_found, pair_refused_late, raises, ahead_more, ahead_end, ahead_refused, refused_after}
use Rattle.kql_operators.proofs.parts.hints.Goals as goal

pub returns-in_err-term-clause-read : goal.returns-in_err-term-clause-read
returns-in_err-term-clause-read c = raises _ c.from_residual.ensures.1 c.in_err-term.ensures.read (λ e r. ahead_refused c.chain.invariant.ahead (refused_after r) (makes_refused (pair_refused_late c.in-Some.ensures.some r refl)) refl)

pub chain-preserved : goal.chain-preserved
chain-preserved c = record { order = grind arith; within = grind arith; ahead = ahead_more c.in_ok-push.ensures.added c.chain.invariant.ahead (makes_found (pair_found c.in-Some.ensures.some c.in_ok-term.ensures.read refl)) refl refl }

pub returns-clause-read : goal.returns-clause-read
returns-clause-read c = ahead_end c.chain.invariant.ahead c.in_default.ensures.none refl
