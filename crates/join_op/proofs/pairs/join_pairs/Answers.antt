use Rattle.std.proofs.Common.{◌∙◌, ap, map, sym}
use Rattle.join_op.specs.Pairs.{rows_led}
use Rattle.join_op.proofs.MatchSteps.{leads-found, others-found}
use Rattle.join_op.proofs.pairs.join_pairs.Goals as goal

pub returns-clause-leads : goal.returns-clause-leads
returns-clause-leads c =
    leads-found c.args.kind c.lead_side-side.result c.opposite.result c.args.on.now c.args.lead.now c.args.other.now c.as_slice-3.result.now c.as_slice-2.result.now c.len.result c.len-2.result c.as_slice-4.result.now c.in_ok-probe.probe c.row_rule.result c.in_ok-pairs.pairs.leads
    c.lead_side-side.ensures.side c.opposite.ensures.side (ap (map (λ c. c.now)) c.as_slice-3.ensures.value ∙ c.in_ok-keys.ensures.cells) (ap (map (λ c. c.now)) c.as_slice-2.ensures.value ∙ c.in_ok-other_keys.ensures.cells)
    c.len.ensures.count c.len-2.ensures.count
    (c.as_slice-4.ensures.items ∙ (c.in_ok-leads.ensures.rows ∙ ap (λ xs. rows_led c.args.kind (map (λ c. c.now) xs) c.len.result) (c.as_slice.ensures.value ∙ sym c.as_slice-3.ensures.value)))
    c.in_ok-probe.ensures.keys c.row_rule.ensures.rule c.in_ok-pairs.ensures.leads

pub returns-clause-others : goal.returns-clause-others
returns-clause-others c =
    others-found c.args.kind c.lead_side-side.result c.opposite.result c.args.on.now c.args.lead.now c.args.other.now c.as_slice-3.result.now c.as_slice-2.result.now c.len.result c.len-2.result c.as_slice-4.result.now c.in_ok-probe.probe c.row_rule.result c.in_ok-pairs.pairs.others
    c.lead_side-side.ensures.side c.opposite.ensures.side (ap (map (λ c. c.now)) c.as_slice-3.ensures.value ∙ c.in_ok-keys.ensures.cells) (ap (map (λ c. c.now)) c.as_slice-2.ensures.value ∙ c.in_ok-other_keys.ensures.cells)
    c.len.ensures.count c.len-2.ensures.count
    (c.as_slice-4.ensures.items ∙ (c.in_ok-leads.ensures.rows ∙ ap (λ xs. rows_led c.args.kind (map (λ c. c.now) xs) c.len.result) (c.as_slice.ensures.value ∙ sym c.as_slice-3.ensures.value)))
    c.in_ok-probe.ensures.keys c.row_rule.ensures.rule c.in_ok-pairs.ensures.others
