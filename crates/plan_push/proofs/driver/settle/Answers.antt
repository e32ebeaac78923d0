use Rattle.plan_push.proofs.SettleSteps.{kept-first, kept-next}
use Rattle.plan_push.proofs.driver.settle.Goals as goal

pub rules-init : goal.rules-init
rules-init c = kept-first c.args.p.now c.in_ok-copy.copy c.in_ok-done.done c.in_ok-copy.ensures.same c.in_ok-done.ensures.program c.requires.fits

pub rules-preserved : goal.rules-preserved
rules-preserved c =
    kept-next c.args.p.now c.rules.done c.in-Ok-Some.next c.in-Ok.made c.rules.invariant
    (rw c.in-Ok-Some.field-0-is at c.in-Ok-Some.ensures.found) c.in-Ok.ensures.program
