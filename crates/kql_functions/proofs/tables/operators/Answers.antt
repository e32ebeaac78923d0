use Rattle.kql_functions.proofs.TableFacts.{every-operator, operators-distinct}
use Rattle.kql_functions.proofs.tables.operators.Goals as goal

pub returns-clause-every : goal.returns-clause-every
returns-clause-every c = rw c.operators_table.ensures every-operator

pub returns-clause-once : goal.returns-clause-once
returns-clause-once c = rw c.operators_table.ensures operators-distinct
