use Rattle.std.proofs.Common.{◌<◌, length}
use Rattle.kql_values.proofs.GridLaws.{truncate-step}
use Rattle.kql_values.proofs.vectors.truncate_each.Goals as goal

pub loop-column-preserved : goal.loop-column-preserved
loop-column-preserved c =
    let lt : c.loop-column.column-index < length c.args.columns.now.items = rw c.deref_mut-column-items.ensures.value at c.loop-column-test.true in
    truncate-step c.args.count c.args.columns.now.items c.loop-column.column-items c.loop-column.column-index c.column-item.result c.truncate.new.self lt c.loop-column.invariant c.column-item.is c.truncate.ensures.rest
