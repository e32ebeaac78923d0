use Rattle.kql_words.specs.Command.{texts}
use Rattle.kql_program.proofs.WorkerFacts.{explain-told, plain-told, trial-told_done}
use Rattle.kql_program.proofs.OutcomeFacts.{no-reads}
use Rattle.kql_program.proofs.steps.command_text.Goals as goal

pub returns-in-Plain-clause-by : goal.returns-in-Plain-clause-by
returns-in-Plain-clause-by g c = plain-told c.args.crew.workers _ (texts c.args.words.now) _ _ _ c.query_plain.ensures.done

pub returns-in-Explain-clause-by : goal.returns-in-Explain-clause-by
returns-in-Explain-clause-by g c = explain-told c.args.crew.workers _ (texts c.args.words.now) _ _ _ c.query_explained.ensures.done

pub returns-in-Trial-clause-done : goal.returns-in-Trial-clause-done
returns-in-Trial-clause-done g c = rw c.in-Trial.is (trial-told_done _ (texts c.args.words.now) _ c.in-Trial.trial _ c.trial_done.ensures.ended)

pub returns-in-Trial-clause-pattern : goal.returns-in-Trial-clause-pattern
returns-in-Trial-clause-pattern g c = λ reads place e. no-reads c.args.command c.in-Trial.trial c.in-Trial.is reads
