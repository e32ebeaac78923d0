use Rattle.std.proofs.Common.{◌∙◌, ap, ap₂, length, sym}
use Rattle.kql_values.specs.Grids.{rows_of}
use Rattle.join_op.specs.Sides.{key_cells, lead_of, lead_side, opposite}
use Rattle.phase_joins.proofs.led.run_keyed.Goals as goal

pub other_rows-requires : goal.other_rows-requires
other_rows-requires g c =
    let against = c.opposite-against.ensures.side ∙ ap opposite c.lead_side-side.ensures.side in
    let eo = c.side_table-other.ensures.table ∙ ap (λ x. lead_of x c.args.left.now c.args.right.now) against in
    record { keys = c.requires.others ∙ sym (ap₂ (key_cells (opposite (lead_side c.args.kind))) c.as_slice-on.ensures.items eo) }

pub run_leads-requires-clause-probe : goal.run_leads-requires-clause-probe
run_leads-requires-clause-probe g c κs within =
    let against = c.opposite-against.ensures.side ∙ ap opposite c.lead_side-side.ensures.side in
    let eo = c.side_table-other.ensures.table ∙ ap (λ x. lead_of x c.args.left.now c.args.right.now) against in
    c.in_ok-probe.ensures.keys ∙ ap₂ (λ os t. rows_of (length t.lines) (key_cells (opposite (lead_side c.args.kind)) os t)) c.as_slice-on.ensures.items eo
