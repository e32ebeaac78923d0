use Rattle.std.proofs.Common.{ap, refl}
use Rattle.std.specs.Prelude.{Err}
use Rattle.kql_live.proofs.LiveCallFacts.{heeds-line, heeds-text}
use Rattle.kql_live.proofs.LiveOutcomeFacts.{outcome-stop, outcome-text}
use Rattle.kql_live.proofs.top.answer_live.Goals as goal

pub returns-in-Ok-clause-outcome : goal.returns-in-Ok-clause-outcome
returns-in-Ok-clause-outcome g c =
    outcome-text _ _ _ _ c.args.asked _ _ _ c.requires.read c.in-Ok.ensures.text c.in-Ok.ensures.seen refl (rw c.as_slice.ensures.items at c.write_ending.ensures.written)

pub returns-in-Err-clause-outcome : goal.returns-in-Err-clause-outcome
returns-in-Err-clause-outcome g c =
    outcome-stop _ _ _ _ c.args.asked _ _ c.requires.read c.in-Err.ensures.text c.in-Err.ensures.words (λ e. c.in-Err.ensures.failed (ap Err e)) refl c.write_stop.ensures.written

pub returns-in-Ok-clause-heeds : goal.returns-in-Ok-clause-heeds
returns-in-Ok-clause-heeds g c = heeds-text _ _ _ _ tt c.in-Ok.ensures.stops c.write_ending.ensures.calls refl

pub returns-in-Err-clause-heeds : goal.returns-in-Err-clause-heeds
returns-in-Err-clause-heeds g c = heeds-line _ _ _ _ c.in-Err.ensures.stops refl c.write_stop.ensures.calls
