use Rattle.table_ops.proofs.CountFacts.{places-start, places-step}
use Rattle.table_ops.proofs.parts.places_given.Goals as goal

pub loop-i-init : goal.loop-i-init
loop-i-init c = places-start c.args.counts.now c.in_ok-places.places c.in_ok-places.ensures.empty

pub loop-i-preserved : goal.loop-i-preserved
loop-i-preserved c = places-step c.args.counts.now c.loop-i.i c.loop-i.places c.push_times.new.places c.loop-i.invariant c.in_ok-push_times.ensures.added
