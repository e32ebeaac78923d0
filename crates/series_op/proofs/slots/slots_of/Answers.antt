use Rattle.std.proofs.Common.{rules}
use Rattle.series_op.proofs.SlotSteps.{puts-all}
use Rattle.series_op.proofs.slots.slots_of.Goals as goal

pub returns : goal.returns
returns c = record {
  slots = puts-all c.args.places.now c.args.count c.rows.row-index c.args.rows.now c.rows.slots.items (search rules) c.rows.invariant;
}
