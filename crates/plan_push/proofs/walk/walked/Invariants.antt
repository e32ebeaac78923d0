use Rattle.kql_meaning.specs.Fits.{known_of}
use Rattle.plan_push.specs.Walk.{pace}
use Rattle.plan_push.proofs.WalkSteps.{Walked}
use Rattle.plan_push.proofs.walk.walked.Given as goal

abbrev pub invariant-places : goal.invariant-places
invariant-places l = Walked (known_of l.tables l.lets) l.inside l.columns l.ops l.before l.passed l.waiting l.changed

abbrev pub decreases-places : goal.decreases-places
decreases-places l = pace l.passed l.waiting
