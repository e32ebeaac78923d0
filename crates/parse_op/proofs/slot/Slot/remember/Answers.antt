use Rattle.std.proofs.Common.{refl}
use Rattle.parse_op.proofs.SlotSteps.{from-lesser, one-more}
use Rattle.parse_op.proofs.slot.Slot.remember.Goals as goal

pub returns-in-Some : goal.returns-in-Some
returns-in-Some c = record {
  remembered = from-lesser c.args.relaxed c.args.item.now c.args.later.now c.args.text.now c.args.self.now.start c.in-Some.place c.args.self.now _ c.requires.none c.in-Some.ensures.any refl c.min-self.ensures c.requires.remembered;
}

pub returns-in-Star : goal.returns-in-Star
returns-in-Star c = record {
  remembered = one-more c.args.relaxed c.args.item.now c.args.later.now c.args.text.now c.args.self.now.start c.args.self.now c.mark.new.self c.requires.none c.mark.ensures.kept c.mark.ensures.marked c.requires.remembered;
}
