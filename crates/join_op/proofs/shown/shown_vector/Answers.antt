use Rattle.std.proofs.Common.{◌<◌, length, subst, sym}
use Rattle.std.specs.Prelude.{All}
use Rattle.join_op.proofs.PlaceSteps.{some-there, there-within}
use Rattle.join_op.proofs.shown.shown_vector.Goals as goal

pub vector_at-requires-clause-within : goal.vector_at-requires-clause-within
vector_at-requires-clause-within c =
    let there = some-there c.args.there.now _ c.args.places.now c.requires.there c.in-Some.is in
    subst (All (λ i. i < length c.args.right.now.lines)) (sym c.as_slice.ensures.items) (there-within (length c.args.right.now.lines) c.args.places.now _ c.requires.within there)
