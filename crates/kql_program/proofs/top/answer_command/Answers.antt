use Rattle.std.proofs.Common.{refl, ap}
use Rattle.std.specs.Prelude.{Err}
use Rattle.kql_program.proofs.JudgedFacts.{stopped-judged, written-judged}
use Rattle.kql_program.proofs.OutcomeFacts.{outcome-stop, outcome-text}
use Rattle.kql_program.proofs.CallFacts.{heeds-line, heeds-text, starts-asked}
use Rattle.kql_program.proofs.WorkerFacts.{stopped-by, written-by}
use Rattle.kql_program.proofs.top.answer_command.Goals as goal

pub returns-in-Ok-clause-outcome : goal.returns-in-Ok-clause-outcome
returns-in-Ok-clause-outcome g c =
    outcome-text _ _ _ _ _ c.args.command _ _ _ c.requires.read c.in-Ok.ensures.text c.in-Ok.ensures.trial c.in-Ok.ensures.done refl (rw c.as_slice.ensures.items at c.write_ending.ensures.written)

pub returns-in-Err-clause-outcome : goal.returns-in-Err-clause-outcome
returns-in-Err-clause-outcome g c =
    outcome-stop _ _ _ _ _ c.args.command _ _ c.requires.read c.in-Err.ensures.text c.in-Err.ensures.trial c.in-Err.ensures.words (λ reads place e. c.in-Err.ensures.pattern reads place (ap Err e)) (λ e. c.in-Err.ensures.failed (ap Err e)) (λ e. c.in-Err.ensures.turn (ap Err e)) refl c.write_stop.ensures.written

pub returns-in-Ok-clause-heeds : goal.returns-in-Ok-clause-heeds
returns-in-Ok-clause-heeds g c = heeds-text c.args.command _ _ _ _ c.in-Ok.ensures.done.ends c.in-Ok.ensures.stops c.write_ending.ensures.calls refl

pub returns-in-Err-clause-heeds : goal.returns-in-Err-clause-heeds
returns-in-Err-clause-heeds g c = heeds-line _ _ _ _ c.in-Err.ensures.stops refl c.write_stop.ensures.calls

pub returns-in-Ok-clause-starts : goal.returns-in-Ok-clause-starts
returns-in-Ok-clause-starts g c = starts-asked _ _ c.args.command _ _ c.requires.read c.in-Ok.ensures.starts

pub returns-in-Err-clause-starts : goal.returns-in-Err-clause-starts
returns-in-Err-clause-starts g c = starts-asked _ _ c.args.command _ _ c.requires.read c.in-Err.ensures.starts

pub returns-in-Ok-clause-by : goal.returns-in-Ok-clause-by
returns-in-Ok-clause-by g c = written-by c.args.crew.workers _ _ _ _ _ c.in-Ok.ensures.by c.write_ending.ensures.written

pub returns-in-Err-clause-by : goal.returns-in-Err-clause-by
returns-in-Err-clause-by g c = stopped-by c.args.crew.workers _ _ _ _ c.write_stop.ensures.written

pub returns-in-Ok-clause-judged : goal.returns-in-Ok-clause-judged
returns-in-Ok-clause-judged g c = written-judged g.P.PatternMaker.makes g.P.PatternMaker.refuses _ _ c.args.command _ _ _ _ _ c.requires.read c.in-Ok.ensures.done.ends c.in-Ok.ensures.judged c.write_ending.ensures.written

pub returns-in-Err-clause-judged : goal.returns-in-Err-clause-judged
returns-in-Err-clause-judged g c = stopped-judged g.P.PatternMaker.makes g.P.PatternMaker.refuses _ _ c.args.command _ _ _ _ c.requires.read c.in-Err.ensures.judged c.write_stop.ensures.written
