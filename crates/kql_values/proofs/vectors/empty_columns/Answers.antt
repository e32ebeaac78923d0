use Rattle.kql_values.proofs.TableLaws.{fits-empty-step}
use Rattle.kql_values.proofs.vectors.empty_columns.Goals as goal

pub loop-column-preserved : goal.loop-column-preserved
loop-column-preserved c =
    fits-empty-step c.args.schema.now c.loop-column.columns.items c.push.new.self.items c.loop-column.column-index c.column-item.result c.loop-column-test.true c.column-item.is c.loop-column.invariant (rw (← c.new.ensures.empty) c.in_ok-push.ensures.items)
