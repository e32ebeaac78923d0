use Rattle.std.proofs.Common.{◌<◌, arith}
use Rattle.kql_values.proofs.TableLaws.{grid-fits}
use Rattle.kql_values.proofs.table.Table.new.Goals as goal

pub invariant_of-result : goal.invariant_of-result
invariant_of-result c =
    let some : 0 < c.into_columns-count.result.0 = omega (arith, c.if-count-eq0.false) in
    (grid-fits c.args.schema c.into_columns-count.result.0 c.into_columns-count.result.1.items some c.into_columns-count.ensures.long (rw (← c.into_columns-count.ensures.rows) at c.requires), c.into_columns-count.ensures.small)
