use Rattle.parse_op.proofs.FillSteps.{absent-done, absent-left, columns-lacked, next-column}
use Rattle.parse_op.proofs.fill.fill_absent.Goals as goal

pub fill_nothing-requires : goal.fill_nothing-requires
fill_nothing-requires c = record {
  column = next-column c.items.builder c.items.left.now c.in-Some.later.now c.in-Some.item.now c.items.invariant.columns c.in-Some.ensures.cases.0;
}

pub items-preserved : goal.items-preserved
items-preserved c = record {
  columns = columns-lacked c.items.builder c.fill_nothing.new.builder c.in-Some.item.now c.items.left.now c.in-Some.later.now c.items.invariant.columns c.in-Some.ensures.cases.0 c.in_ok-fill_nothing.ensures.added;
  filled = absent-left c.items.builder c.fill_nothing.new.builder _ c.in-Some.item.now c.items.left.now c.in-Some.later.now c.in-Some.ensures.cases.0 c.in_ok-fill_nothing.ensures.added c.items.invariant.filled;
}

pub returns : goal.returns
returns c = record {
  added = absent-done c.items.builder _ c.items.left.now c.in_default.ensures.cases c.items.invariant.filled;
}
