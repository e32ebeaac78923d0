use Rattle.std.proofs.Common.{◌∙◌, List, ℕ, ap, ap₂, length, map, subst}
use Rattle.join_op.specs.Led.{led_table}
use Rattle.join_op.specs.Sides.{key_cells, lead_of, lead_side, opposite}
use Rattle.phase_pieces.specs.Reports.{IsCutFor}
use Rattle.phase_joins.proofs.LedSteps.{keys-there, leads-all, within-moved}
use Rattle.phase_joins.proofs.led.run_led.Goals as goal

pub key_columns-requires : goal.key_columns-requires
key_columns-requires g c = record {
  keys = keys-there c.law_of_leads.ensures.keys c.args.j.now c.lead_side-side.result c.as_slice-on.result.now c.args.left.now c.args.right.now c.side_table-lead.result.now c.requires.fits c.as_slice-on.ensures.items c.side_table-lead.ensures.table;
}

pub key_columns-requires-2 : goal.key_columns-requires-2
key_columns-requires-2 g c = record {
  keys = keys-there c.law_of_leads.ensures.keys c.args.j.now c.opposite-against.result c.as_slice-on.result.now c.args.left.now c.args.right.now c.side_table-other.result.now c.requires.fits c.as_slice-on.ensures.items c.side_table-other.ensures.table;
}

pub leading_rows-requires : goal.leading_rows-requires
leading_rows-requires g c = record {
  keys = ap (map (λ c. c.now)) c.as_slice-own.ensures.value ∙ (c.in_ok-keys.ensures.cells ∙ ap (λ x. key_cells x c.as_slice-on.result.now c.side_table-lead.result.now) c.lead_side-side.ensures.side);
}

pub run_keyed-requires-clause-keys : goal.run_keyed-requires-clause-keys
run_keyed-requires-clause-keys g c κs within =
    let s = lead_side c.args.kind in
    let a = c.args.left.now in
    let b = c.args.right.now in
    let el = c.side_table-lead.ensures.table ∙ ap (λ x. lead_of x a b) c.lead_side-side.ensures.side in
    ap (map (λ c. c.now)) c.as_slice-own.ensures.value
    ∙ (c.in_ok-keys.ensures.cells
    ∙ (ap (λ x. key_cells x c.as_slice-on.result.now c.side_table-lead.result.now) c.lead_side-side.ensures.side ∙ ap₂ (key_cells s) c.as_slice-on.ensures.items el))

pub run_keyed-requires-clause-others : goal.run_keyed-requires-clause-others
run_keyed-requires-clause-others g c κs within =
    let s = lead_side c.args.kind in
    let against = c.opposite-against.ensures.side ∙ ap opposite c.lead_side-side.ensures.side in
    let eo = c.side_table-other.ensures.table ∙ ap (λ x. lead_of x c.args.left.now c.args.right.now) against in
    ap (map (λ c. c.now)) c.as_slice-others.ensures.value
    ∙ (c.in_ok-other_keys.ensures.cells
    ∙ (ap (λ x. key_cells x c.as_slice-on.result.now c.side_table-other.result.now) against ∙ ap₂ (key_cells (opposite s)) c.as_slice-on.ensures.items eo))

pub run_keyed-requires-clause-within : goal.run_keyed-requires-clause-within
run_keyed-requires-clause-within g c κs within =
    let s = lead_side c.args.kind in
    let a = c.args.left.now in
    let b = c.args.right.now in
    let el = c.side_table-lead.ensures.table ∙ ap (λ x. lead_of x a b) c.lead_side-side.ensures.side in
    within-moved c.side_table-lead.result.now (lead_of s a b) c.in_ok-leads.leads c.as_slice.result.now el c.as_slice.ensures.items c.in_ok-leads.ensures.within

pub returns-clause-table : goal.returns-clause-table
returns-clause-table g c =
    let a = c.args.left.now in
    let b = c.args.right.now in
    let el = c.side_table-lead.ensures.table ∙ ap (λ x. lead_of x a b) c.lead_side-side.ensures.side in
    c.in_ok-ran.ensures.table
    ∙ ap (led_table c.args.both c.args.kind c.args.j.now a b)
    (c.as_slice.ensures.items ∙ leads-all c.args.kind c.args.j.now c.as_slice-on.result.now a b c.side_table-lead.result.now c.in_ok-leads.leads c.in_ok-leads.ensures.rows c.as_slice-on.ensures.items el)

pub returns-clause-pieces : goal.returns-clause-pieces
returns-clause-pieces g c =
    let a = c.args.left.now in
    let b = c.args.right.now in
    let el = c.side_table-lead.ensures.table ∙ ap (λ x. lead_of x a b) c.lead_side-side.ensures.side in
    subst (λ (ls : List ℕ). IsCutFor (length ls) c.args.sizes.piece_rows c.in_ok-ran.ran.gathered)
    (c.as_slice.ensures.items ∙ leads-all c.args.kind c.args.j.now c.as_slice-on.result.now a b c.side_table-lead.result.now c.in_ok-leads.leads c.in_ok-leads.ensures.rows c.as_slice-on.ensures.items el)
    c.in_ok-ran.ensures.pieces
