use Rattle.kql_values.proofs.BuilderFacts.{stored-whole}
use Rattle.kql_values.proofs.builder.TableBuilder.finish.Goals as goal

pub from_columns-requires-clause-fits : goal.from_columns-requires-clause-fits
from_columns-requires-clause-fits c =
    let none = rw (← c.self.view_is) at c.requires in
    stored-whole c.self.inside.schema c.self.inside.columns.items c.self.inside.count c.self.inside.filled c.self.invariant none
