use Rattle.std.proofs.Common.{refl, arith}
use Rattle.kql_syntax.proofs.ReadingLaws.{raises, listed_start, listed_more, listed_end, listed_refused, listed_refused_first}
use Rattle.kql_operators.proofs.scans.decls.Goals as goal

pub returns-in_err-first-clause-read : goal.returns-in_err-first-clause-read
returns-in_err-first-clause-read c = raises _ c.from_residual.ensures.1 c.in_err-first.ensures.read (λ e r. listed_refused_first r refl)

pub list-init : goal.list-init
list-init c = record { order = grind arith; within = grind arith; listing = listed_start (rw (c.in_ok-push.ensures.added, c.new-items.ensures.empty) refl) c.in_ok-first.ensures.read refl }

pub returns-in_err-item-clause-read : goal.returns-in_err-item-clause-read
returns-in_err-item-clause-read c = raises _ c.from_residual-in_err-item.ensures.1 c.in_err-item.ensures.read (λ e r. listed_refused c.list.invariant.listing c.in-Some.ensures.some r refl)

pub list-preserved : goal.list-preserved
list-preserved c = record { order = grind arith; within = grind arith; listing = listed_more c.in_ok-push-2.ensures.added c.list.invariant.listing c.in-Some.ensures.some c.in_ok-item.ensures.read refl }

pub returns-clause-read : goal.returns-clause-read
returns-clause-read c = listed_end c.list.invariant.listing c.in_default.ensures.none
