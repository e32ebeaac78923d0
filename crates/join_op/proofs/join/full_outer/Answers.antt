use Rattle.std.proofs.Common.{◌∙◌, ◌++◌, ap, map}
use Rattle.kql_bound.specs.declared.parts.JoinKind.TheVariants as join
use Rattle.join_op.specs.Pairs.{join_pairs}
use Rattle.join_op.proofs.JoinSteps.{full-joined, full-shows, names-shown}
use Rattle.join_op.proofs.PairedSteps.{absent-columns}
use Rattle.join_op.proofs.join.full_outer.Goals as goal

pub with_right-requires-clause-names : goal.with_right-requires-clause-names
with_right-requires-clause-names c =
    names-shown c.args.j.now c.args.left.now c.args.right.now c.in_ok-kept.kept (absent-columns c.args.left.now c.in_ok-kept.kept c.as_slice-3.result.now c.in_ok-kept.ensures.rows)
    (full-shows c.args.j.now.kind c.requires.lead) c.requires.names

pub returns : goal.returns
returns c =
    let a = c.args.left.now in
    let b = c.args.right.now in
    record {
      table = full-joined c.args.j.now a b c.in_ok-kept.kept c.in_ok-made.made c.as_slice.result.now c.as_slice-2.result.now c.in_ok-leads.field-0.others c.in_ok-more.more.others c.in_ok-some_places.field-0 c.in_ok-some_places-2.field-0
          c.as_slice-3.result.now c.as_slice-4.result.now c.requires.lead
          (c.as_slice.ensures.items ∙ (c.in_ok-leads.ensures.leads ∙ ap (λ on. map (λ q. q.0) (join_pairs join.LeftOuter on a b)) c.as_slice-on.ensures.items))
          (c.in_ok-leads.ensures.others ∙ ap (λ on. map (λ q. q.1) (join_pairs join.LeftOuter on a b)) c.as_slice-on.ensures.items)
          (c.as_slice-2.ensures.items ∙ (c.in_ok-more.ensures.leads ∙ ap (λ on. map (λ q. q.0) (join_pairs join.RightAnti on b a)) c.as_slice-on.ensures.items))
          (c.in_ok-more.ensures.others ∙ ap (λ on. map (λ q. q.1) (join_pairs join.RightAnti on b a)) c.as_slice-on.ensures.items)
          c.in_ok-some_places.ensures.places c.in_ok-some_places-2.ensures.places
          (c.as_slice-3.ensures.items ∙ c.in_ok-lefts.ensures.places) (c.as_slice-4.ensures.items ∙ (c.in_ok-rights.ensures.places ∙ ap (λ xs. xs ++ c.in_ok-some_places-2.field-0) c.others.view_is))
          c.in_ok-kept.ensures.rows c.in_ok-made.ensures.rows;
    }
