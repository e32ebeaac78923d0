use Rattle.kql_functions.proofs.TableFacts.{own_aggregate}
use Rattle.kql_functions.proofs.aggregate.Aggregate.name.Goals as goal

pub returns-clause-own : goal.returns-clause-own
returns-clause-own c = own_aggregate _ _ c.name_of.ensures.name
