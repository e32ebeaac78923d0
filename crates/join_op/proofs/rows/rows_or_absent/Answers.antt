use Rattle.std.proofs.Common.{◌<◌, ◌∙◌, ap, length, map, subst, sym}
use Rattle.std.specs.Prelude.{All, Some}
use Rattle.join_op.proofs.PlaceSteps.{some-there, there-gathered, there-within}
use Rattle.join_op.proofs.rows.rows_or_absent.Goals as goal

pub rows_at-requires : goal.rows_at-requires
rows_at-requires c =
    let there = some-there c.in_ok-rows.field-0 _ c.args.places.now c.in_ok-rows.ensures.places c.in-Some.is in
    record { within = subst (All (λ i. i < length c.args.t.now.lines)) (sym c.as_slice.ensures.items) (there-within (length c.args.t.now.lines) c.args.places.now _ c.requires.within there) }

pub returns-in_ok-all-in-Some : goal.returns-in_ok-all-in-Some
returns-in_ok-all-in-Some c =
    let there = some-there c.in_ok-rows.field-0 _ c.args.places.now c.in_ok-rows.ensures.places c.in-Some.is in
    record { rows = there-gathered c.args.t.now c.in_ok-all-in-Some.all c.args.places.now c.as_slice.result.now (there ∙ ap (map (λ i. Some i)) (sym c.as_slice.ensures.items)) c.in_ok-all-in-Some.ensures.rows }
