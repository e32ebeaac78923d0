use Rattle.std.proofs.Common.{length}
use Rattle.kql_scalar.specs.Means.{means}
use Rattle.kql_scalar.specs.Rows.{passes}
use Rattle.kql_scalar.proofs.RowSteps.{below-along}
use Rattle.kql_scalar.proofs.rows.places_in.Goals as goal

pub returns-clause-within : goal.returns-clause-within
returns-clause-within c =
    (below-along (length c.args.t.now.lines) (passes (means c.args.node.now) c.args.t.now) c.in_ok-places.places.items c.in_ok-left.left.items c.in_ok-places.ensures.within c.in_ok-left.ensures.places).each
