use Rattle.std.proofs.Common.{arith, length}
use Rattle.kql_scalar.proofs.RowSteps.{below-added, places-more}
use Rattle.kql_scalar.proofs.rows.all_places.Goals as goal

pub rows-preserved : goal.rows-preserved
rows-preserved c = record {
  made = places-more c.args.from c.rows.i c.rows.places.items c.push.new.self.items (omega (arith, c.rows.auto.i)) c.rows.invariant.made c.in_ok-push.ensures.items;
  within = below-added (length c.args._t.now.lines) c.rows.i c.rows.places.items c.push.new.self.items c.rows.invariant.within (omega (arith, c.rows-test.true, c.requires.range)) c.in_ok-push.ensures.items;
}
