use Rattle.parse_op.proofs.SlotSteps.{opened}
use Rattle.parse_op.proofs.slot.Slot.begin.Goals as goal

pub returns-clause-held : goal.returns-clause-held
returns-clause-held c =
    opened c.args.relaxed c.args.item.now c.args.later.now c.args.text.now c.args.start c.ends_between-first.result.0 c.ends_between-first.result.1 c.min-self.result c.min-self-2.result c.args.self.now c.requires.place
    c.ends_between-first.ensures.order c.ends_between-first.ensures.before c.ends_between-first.ensures.behind c.requires.remembered c.min-self.ensures c.min-self-2.ensures
