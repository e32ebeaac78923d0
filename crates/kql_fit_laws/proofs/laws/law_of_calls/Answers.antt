use Rattle.kql_fit_laws.proofs.CallRows.{call_keeps}
use Rattle.kql_fit_laws.proofs.laws.law_of_calls.Goals as goal

pub returns : goal.returns
returns c = record { calls = call_keeps }
