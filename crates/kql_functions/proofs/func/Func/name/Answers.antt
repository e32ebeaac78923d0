use Rattle.kql_functions.proofs.NameFacts.{own_name}
use Rattle.kql_functions.proofs.func.Func.name.Goals as goal

pub returns-clause-own : goal.returns-clause-own
returns-clause-own c = own_name _ _ c.name_of.ensures.name
