use Rattle.series_op.proofs.InsideSteps.{inside-below}
use Rattle.series_op.proofs.inside.rows_inside.Goals as goal

pub gather-requires : goal.gather-requires
gather-requires c = inside-below c.args.series.now c.args.t.now c.in_ok-places.places c.as_slice.result.now c.in_ok-places.ensures.places c.as_slice.ensures.items
