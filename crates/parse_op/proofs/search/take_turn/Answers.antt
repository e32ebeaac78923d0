use Rattle.parse_op.specs.Search.{first_start}
use Rattle.parse_op.proofs.TurnSteps.{first-of-next, kept-memory, kept-place, of-first, of-later, of-open, turn-deeper}
use Rattle.parse_op.proofs.search.take_turn.Goals as goal

pub choose-requires-clause-held : goal.choose-requires-clause-held
choose-requires-clause-held c =
    of-open c.args.relaxed c.in-Some.item.now c.in-Some.later.now c.args.items.now c.args.text.now (first_start c.args.slots.now) c.in-Some-split_first_mut.slot.now c.in-Some-split_first_mut.behind.now c.args.slots.now c.in-Some.ensures.cases.0 c.in-Some-split_first_mut.ensures.cases.0 c.requires.stands

pub remember-requires-clause-place : goal.remember-requires-clause-place
remember-requires-clause-place c =
    kept-place c.args.relaxed c.in-Some.item.now c.in-Some.later.now c.args.text.now c.in-Some-split_first_mut.slot.now c.choose.new.slot c.choose.ensures.kept
    (of-open c.args.relaxed c.in-Some.item.now c.in-Some.later.now c.args.items.now c.args.text.now (first_start c.args.slots.now) c.in-Some-split_first_mut.slot.now c.in-Some-split_first_mut.behind.now c.args.slots.now c.in-Some.ensures.cases.0 c.in-Some-split_first_mut.ensures.cases.0 c.requires.stands)

pub remember-requires-clause-remembered : goal.remember-requires-clause-remembered
remember-requires-clause-remembered c =
    kept-memory c.args.relaxed c.in-Some.item.now c.in-Some.later.now c.args.text.now c.in-Some-split_first_mut.slot.now c.choose.new.slot c.choose.ensures.kept
    (of-first c.args.relaxed c.in-Some.item.now c.in-Some.later.now c.args.items.now c.args.text.now (first_start c.args.slots.now) c.in-Some-split_first_mut.slot.now c.in-Some-split_first_mut.behind.now c.args.slots.now c.in-Some.ensures.cases.0 c.in-Some-split_first_mut.ensures.cases.0 c.requires.stands)

pub begin-requires-clause-remembered : goal.begin-requires-clause-remembered
begin-requires-clause-remembered c =
    first-of-next c.args.relaxed c.in-Some-split_first.next.now c.in-Some-split_first.last.now c.in-Some.later.now c.args.text.now c.in-Some-split_first_mut-2.next_slot.now c.in-Some-split_first_mut-2._others.now c.in-Some-split_first_mut.behind.now c.in-Some-split_first.ensures.cases.0 c.in-Some-split_first_mut-2.ensures.cases.0
    (of-later c.args.relaxed c.in-Some.item.now c.in-Some.later.now c.args.items.now c.args.text.now (first_start c.args.slots.now) c.in-Some-split_first_mut.slot.now c.in-Some-split_first_mut.behind.now c.args.slots.now c.in-Some.ensures.cases.0 c.in-Some-split_first_mut.ensures.cases.0 c.requires.stands)

pub returns-clause-turned : goal.returns-clause-turned
returns-clause-turned c =
    turn-deeper c.args.relaxed c.in-Some.item.now c.in-Some-split_first.next.now c.in-Some.later.now c.in-Some-split_first.last.now c.args.items.now c.args.text.now c.in-Some-split_first_mut.slot.now c.choose.new.slot c.in-Some-split_first_mut-2.next_slot.now c.begin.new.self c.in-Some-split_first_mut.behind.now c.in-Some-split_first_mut-2._others.now c.args.slots.now c.choose.result
    c.in-Some.ensures.cases.0 c.in-Some-split_first.ensures.cases.0 c.in-Some-split_first_mut.ensures.cases.0 c.in-Some-split_first_mut-2.ensures.cases.0 c.requires.stands c.choose.ensures.kept c.choose.ensures.chosen c.if-not-choose.false c.begin.ensures.at c.begin.ensures.held c.begin.ensures.remembered
