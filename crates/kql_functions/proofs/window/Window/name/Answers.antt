use Rattle.kql_functions.proofs.TableFacts.{own_window}
use Rattle.kql_functions.proofs.window.Window.name.Goals as goal

pub returns-clause-own : goal.returns-clause-own
returns-clause-own c = own_window _ _ c.name_of.ensures.name
