use Rattle.std.proofs.Common.{refl}
use Rattle.kql_live.proofs.LiveCallFacts.{heeds-line}
use Rattle.kql_live.proofs.LiveOneFacts.{one-told}
use Rattle.kql_live.proofs.LiveOutcomeFacts.{outcome-first}
use Rattle.kql_live.proofs.top.kql_live.Goals as goal

pub returns-in-Err-clause-outcome : goal.returns-in-Err-clause-outcome
returns-in-Err-clause-outcome g c = outcome-first _ _ _ _ _ _ c.in-Err.ensures.read refl c.write_refusal.ensures.written

pub returns-in-Ok-clause-one : goal.returns-in-Ok-clause-one
returns-in-Ok-clause-one g c = one-told _ _

pub returns-in-Err-clause-one : goal.returns-in-Err-clause-one
returns-in-Err-clause-one g c = one-told _ _

pub returns-in-Err-clause-heeds : goal.returns-in-Err-clause-heeds
returns-in-Err-clause-heeds g c = heeds-line _ _ _ _ refl refl c.write_refusal.ensures.calls
