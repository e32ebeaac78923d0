use Rattle.std.proofs.Common.{get_or, refl}
use Rattle.summarize_op.proofs.PickSteps.{rows-step}
use Rattle.summarize_op.proofs.picks.picked_rows.Goals as goal

pub groups-preserved : goal.groups-preserved
groups-preserved c = rows-step c.args.numbers.now c.args.places.now c.get.result.now c.in_ok-lists.lists c.groups.g (get_or c.args.places.now c.groups.g 0) c.args.count c.place_in-row.result c.groups.rows.items c.push.new.self.items c.groups-test.true c.in_ok-lists.ensures.lists c.get.ensures.same refl c.place_in-row.ensures.place c.groups.invariant c.in_ok-push.ensures.items
