use Rattle.kql_functions.proofs.NameFacts.{find_aggregate, find_operator, find_pattern, find_refused, find_scalar, find_unknown, find_window}
use Rattle.kql_functions.proofs.names.find.Goals as goal

pub returns-clause-scalar : goal.returns-clause-scalar
returns-clause-scalar c = find_scalar _ _ c.find_in_tables.ensures.value

pub returns-clause-window : goal.returns-clause-window
returns-clause-window c = find_window _ _ c.find_in_tables.ensures.value

pub returns-clause-aggregate : goal.returns-clause-aggregate
returns-clause-aggregate c = find_aggregate _ _ c.find_in_tables.ensures.value

pub returns-clause-refused : goal.returns-clause-refused
returns-clause-refused c = find_refused _ _ c.find_in_tables.ensures.value

pub returns-clause-pattern : goal.returns-clause-pattern
returns-clause-pattern c = find_pattern _ _ c.find_in_tables.ensures.value

pub returns-clause-operator : goal.returns-clause-operator
returns-clause-operator c = find_operator _ _ c.find_in_tables.ensures.value

pub returns-clause-unknown : goal.returns-clause-unknown
returns-clause-unknown c = find_unknown _ _ c.find_in_tables.ensures.value
