use Rattle.parse_op.specs.Search.{ends_in}
use Rattle.parse_op.proofs.CutSteps.{place-boundary}
use Rattle.parse_op.proofs.FillSteps.{columns-left, count-left, slot-place, later-ends, next-column, pieces-done, pieces-left}
use Rattle.parse_op.proofs.fill.fill_pieces.Goals as goal

pub range-requires-clause-start_boundary : goal.range-requires-clause-start_boundary
range-requires-clause-start_boundary c = λ above. place-boundary c.args.text.now c.items.start c.items.invariant.place

pub range-requires-clause-end_boundary : goal.range-requires-clause-end_boundary
range-requires-clause-end_boundary c =
    place-boundary c.args.text.now c.in-Some-split_first.slot.now.end (slot-place c.args.text.now c.items.start c.in-Some-split_first.slot.now c.items.ends.now c.in-Some-split_first.behind.now c.items.invariant.ends c.in-Some-split_first.ensures.cases.0)

pub fill_item-requires : goal.fill_item-requires
fill_item-requires c = record {
  column = next-column c.items.builder c.items.left.now c.in-Some.later.now c.in-Some.item.now c.items.invariant.columns c.in-Some.ensures.cases.0;
}

pub items-preserved : goal.items-preserved
items-preserved c = record {
  count = count-left c.items.left.now c.in-Some.later.now c.in-Some.item.now c.in-Some-split_first.slot.now c.items.ends.now c.in-Some-split_first.behind.now c.in-Some.ensures.cases.0 c.in-Some-split_first.ensures.cases.0 c.items.invariant.count;
  place = slot-place c.args.text.now c.items.start c.in-Some-split_first.slot.now c.items.ends.now c.in-Some-split_first.behind.now c.items.invariant.ends c.in-Some-split_first.ensures.cases.0;
  ends = later-ends c.args.text.now c.items.start c.in-Some-split_first.slot.now c.items.ends.now c.in-Some-split_first.behind.now c.items.invariant.ends c.in-Some-split_first.ensures.cases.0;
  columns = columns-left c.items.builder c.fill_item.new.builder c.in-Some.item.now c.range.result.now c.items.left.now c.in-Some.later.now c.items.invariant.columns c.in-Some.ensures.cases.0 c.in_ok-fill_item.ensures.added;
  filled = pieces-left c.items.builder c.fill_item.new.builder _ c.in-Some.item.now c.args.text.now c.items.start c.range.result.now c.items.left.now c.in-Some.later.now c.in-Some-split_first.slot.now c.items.ends.now c.in-Some-split_first.behind.now c.in-Some.ensures.cases.0 c.in-Some-split_first.ensures.cases.0 c.range.ensures.value c.in_ok-fill_item.ensures.added c.items.invariant.filled;
}

pub returns : goal.returns
returns c = record {
  added = pieces-done c.items.builder _ c.items.left.now c.args.text.now c.items.start (ends_in c.items.ends.now) c.in_default.ensures.cases c.items.invariant.filled;
}
