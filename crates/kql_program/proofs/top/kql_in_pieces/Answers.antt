use Rattle.std.proofs.Common.{refl}
use Rattle.kql_program.proofs.JudgedFacts.{words-judged}
use Rattle.kql_program.proofs.OutcomeFacts.{outcome-first}
use Rattle.kql_program.proofs.VerdictFacts.{one-told}
use Rattle.kql_program.proofs.CallFacts.{heeds-line, starts-none}
use Rattle.kql_program.proofs.WorkerFacts.{asked-by, refused-words-by, stopped-by}
use Rattle.kql_program.proofs.top.kql_in_pieces.Goals as goal

pub returns-in-Err-clause-outcome : goal.returns-in-Err-clause-outcome
returns-in-Err-clause-outcome g c = outcome-first _ _ _ _ _ _ _ c.in-Err.ensures.read refl c.write_refusal.ensures.written

pub returns-in-Ok-clause-one : goal.returns-in-Ok-clause-one
returns-in-Ok-clause-one g c = one-told _ _ _

pub returns-in-Err-clause-one : goal.returns-in-Err-clause-one
returns-in-Err-clause-one g c = one-told _ _ _

pub returns-in-Err-clause-heeds : goal.returns-in-Err-clause-heeds
returns-in-Err-clause-heeds g c = heeds-line _ _ _ _ refl refl c.write_refusal.ensures.calls

pub returns-in-Err-clause-starts : goal.returns-in-Err-clause-starts
returns-in-Err-clause-starts g c = starts-none _ _ _ _ c.in-Err.ensures.read

pub returns-in-Ok-clause-workers : goal.returns-in-Ok-clause-workers
returns-in-Ok-clause-workers g c = asked-by _ c.in-Ok.command c.workers_for-workers.result _ c.in-Ok.ensures.read c.workers_for-workers.ensures.few c.workers_for-workers.ensures.asked c.answer_command.ensures.by

pub returns-in-Err-clause-workers : goal.returns-in-Err-clause-workers
returns-in-Err-clause-workers g c = refused-words-by _ _ _ c.in-Err.ensures.read (λ n. stopped-by n _ _ _ _ c.write_refusal.ensures.written)

pub returns-in-Err-clause-judged : goal.returns-in-Err-clause-judged
returns-in-Err-clause-judged g c = words-judged g.P.PatternMaker.makes g.P.PatternMaker.refuses _ _ _ _ c.in-Err.ensures.read
