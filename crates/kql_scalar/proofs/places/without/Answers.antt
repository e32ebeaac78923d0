use Rattle.std.proofs.Common.{arith}
use Rattle.kql_scalar.proofs.PlaceSteps.{without-turn}
use Rattle.kql_scalar.proofs.places.without.Goals as goal

pub places-preserved : goal.places-preserved
places-preserved c =
    without-turn c.args.places.now c.args.taken.now c.places.rest.now c.behind-rest.result.now c.places.left.items c.push_if.new.places.items c.places.place-index 0 c.is_first-test.result
    (omega (arith, c.places-test.true)) c.places.invariant c.is_first-test.ensures.first c.in_ok-push_if.ensures.added c.behind-rest.ensures.places
