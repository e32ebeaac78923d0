use Rattle.parse_op.proofs.SlotSteps.{first-place}
use Rattle.parse_op.proofs.TurnSteps.{begun, first-of-next}
use Rattle.parse_op.proofs.search.begin.Goals as goal

pub begin-requires-clause-place : goal.begin-requires-clause-place
begin-requires-clause-place c = first-place c.args.text.now c.utf8.text

pub begin-requires-clause-remembered : goal.begin-requires-clause-remembered
begin-requires-clause-remembered c =
    first-of-next c.args.relaxed c.in-Some.item.now c.in-Some.later.now c.args.items.now c.args.text.now c.in-Some-split_first_mut.slot.now c.in-Some-split_first_mut._behind.now c.args.slots.now c.in-Some.ensures.cases.0 c.in-Some-split_first_mut.ensures.cases.0 c.requires.remembered

pub returns-clause-stands : goal.returns-clause-stands
returns-clause-stands c =
    begun c.args.relaxed c.in-Some.item.now c.in-Some.later.now c.args.items.now c.args.text.now 0 c.in-Some-split_first_mut.slot.now c.begin.new.self c.in-Some-split_first_mut._behind.now c.args.slots.now c.in-Some.ensures.cases.0 c.in-Some-split_first_mut.ensures.cases.0 c.requires.remembered c.begin.ensures.at c.begin.ensures.held c.begin.ensures.remembered
