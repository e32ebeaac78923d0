use Rattle.kql_functions.proofs.TableFacts.{every-window, windows-distinct}
use Rattle.kql_functions.proofs.window.windows.Goals as goal

pub returns-clause-every : goal.returns-clause-every
returns-clause-every c = rw c.windows_table.ensures every-window

pub returns-clause-once : goal.returns-clause-once
returns-clause-once c = rw c.windows_table.ensures windows-distinct
