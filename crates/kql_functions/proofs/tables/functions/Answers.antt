use Rattle.kql_functions.proofs.TableFacts.{every-function, functions-distinct}
use Rattle.kql_functions.proofs.tables.functions.Goals as goal

pub returns-clause-every : goal.returns-clause-every
returns-clause-every c = rw c.functions_table.ensures every-function

pub returns-clause-once : goal.returns-clause-once
returns-clause-once c = rw c.functions_table.ensures functions-distinct
