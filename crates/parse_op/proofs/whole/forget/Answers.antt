use Rattle.parse_op.proofs.SlotSteps.{fresh-at-first}
use Rattle.parse_op.proofs.whole.forget.Goals as goal

pub slots-init : goal.slots-init
slots-init c = fresh-at-first c.args.size c.args.slots.now
