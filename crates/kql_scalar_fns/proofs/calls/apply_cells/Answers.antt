use Rattle.kql_scalar_fns.proofs.CallLaws.{call_gives}
use Rattle.kql_scalar_fns.proofs.calls.apply_cells.Goals as goal

pub returns-clause-kind : goal.returns-clause-kind
returns-clause-kind c = call_gives _ _ _ c.dispatch.ensures.value
