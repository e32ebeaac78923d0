use Rattle.kql_functions.proofs.TableFacts.{every-aggregate, aggregates-distinct}
use Rattle.kql_functions.proofs.aggregate.aggregates.Goals as goal

pub returns-clause-every : goal.returns-clause-every
returns-clause-every c = rw c.aggregates_table.ensures every-aggregate

pub returns-clause-once : goal.returns-clause-once
returns-clause-once c = rw c.aggregates_table.ensures aggregates-distinct
