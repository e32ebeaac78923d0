use Rattle.std.proofs.Common.{◌∙◌, ap, map}
use Rattle.join_op.specs.Pairs.{join_pairs}
use Rattle.join_op.proofs.JoinSteps.{as-long, leads-inside, names-both, others-inside, rise, rows-shown-joined, right-joined}
use Rattle.join_op.proofs.join.right_led.Goals as goal

pub right_table-requires : goal.right_table-requires
right_table-requires c =
    let j = c.args.j.now in
    let a = c.args.right.now in
    let b = c.args.left.now in
    let el = c.as_slice-2.ensures.items ∙ (c.in_ok-leads.ensures.leads ∙ ap (λ on. map (λ q. q.0) (join_pairs j.kind on a b)) c.as_slice.ensures.items) in
    let eo = c.as_slice-3.ensures.items ∙ (c.in_ok-leads.ensures.others ∙ ap (λ on. map (λ q. q.1) (join_pairs j.kind on a b)) c.as_slice.ensures.items) in
    record {
      names = names-both j c.args.left.now.columns c.args.right.now.columns c.shows_both-both.result c.shows_both-both.ensures.both c.requires.names;
      leads = leads-inside j.kind j.on a b c.as_slice-2.result.now el;
      others = others-inside j.kind j.on a b c.as_slice-3.result.now eo;
      count = as-long j.kind j.on a b c.as_slice-2.result.now c.as_slice-3.result.now el eo;
    }

pub returns-clause-table : goal.returns-clause-table
returns-clause-table c =
    let j = c.args.j.now in
    let a = c.args.right.now in
    let b = c.args.left.now in
    right-joined j c.args.left.now c.args.right.now c.in_ok-table.table c.shows_both-both.result c.as_slice-2.result.now c.as_slice-3.result.now c.requires.lead c.shows_both-both.ensures.both c.requires.side
    (c.as_slice-2.ensures.items ∙ (c.in_ok-leads.ensures.leads ∙ ap (λ on. map (λ q. q.0) (join_pairs j.kind on a b)) c.as_slice.ensures.items))
    (c.as_slice-3.ensures.items ∙ (c.in_ok-leads.ensures.others ∙ ap (λ on. map (λ q. q.1) (join_pairs j.kind on a b)) c.as_slice.ensures.items))
    c.in_ok-table.ensures.table

pub returns-clause-rows : goal.returns-clause-rows
returns-clause-rows c =
    rows-shown-joined c.args.j.now c.args.left.now c.args.right.now c.in_ok-table.table c.requires.lead (returns-clause-table c)

pub returns-clause-order : goal.returns-clause-order
returns-clause-order c = rise c.args.j.now.kind c.as_slice.result.now c.args.right.now c.args.left.now c.in_ok-leads.field-0.leads c.in_ok-leads.ensures.leads
