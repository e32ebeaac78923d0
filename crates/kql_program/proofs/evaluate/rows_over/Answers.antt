use Rattle.kql_program.proofs.evaluate.rows_over.Goals as goal

pub returns-clause-reports : goal.returns-clause-reports
returns-clause-reports g c = (_, c.in_ok-answer.ensures.report.told, c.in_ok-push.ensures.added)
