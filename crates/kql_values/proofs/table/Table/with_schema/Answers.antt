use Rattle.kql_values.proofs.TableLaws.{fits-kinds}
use Rattle.kql_values.proofs.table.Table.with_schema.Goals as goal

pub invariant_of-result : goal.invariant_of-result
invariant_of-result c = (fits-kinds c.self.inside.schema c.args.schema c.self.inside.count c.self.inside.columns.items (rw (← c.self.view_is) at c.requires) c.self.invariant.0, c.self.invariant.1)
