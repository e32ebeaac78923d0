use Rattle.kql_cells.specs.Seen.{seen}
use Rattle.series_op.proofs.ArraySteps.{part-form, part-within}
use Rattle.series_op.proofs.arrays.array_parts.Goals as goal

pub elements-requires : goal.elements-requires
elements-requires c = record {
  form = part-form c.args.column.now (seen c.args.default) c.as_slice.result.now c.in_ok-cells.cells c.requires.form c.requires.default
      (part-within c.args.column.now c.args.places.now c.args.count c.args.rows.now c.in_ok-slots.slots.items c.as_slice.result.now c.requires.long c.requires.rows c.in_ok-slots.ensures.slots c.as_slice.ensures.value)
      c.in_ok-cells.ensures.cells;
}
