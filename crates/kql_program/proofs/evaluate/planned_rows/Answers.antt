use Rattle.kql_program.proofs.PlanFacts.{plan-rows}
use Rattle.kql_program.proofs.evaluate.planned_rows.Goals as goal

pub returns-clause-rows : goal.returns-clause-rows
returns-clause-rows g c =
    plan-rows c.args.program.now _ c.args.catalogue.now _ _ c.know_tables.ensures.tables c.tables.ensures.tables c.requires.fits c.in_ok-plan.ensures.plan (rw c.get.ensures.value at c.in_ok-answer.ensures.table)

pub returns-clause-evaluated : goal.returns-clause-evaluated
returns-clause-evaluated g c = rw c.get.ensures.value at c.in_ok-answer.ensures.table

pub returns-clause-report : goal.returns-clause-report
returns-clause-report g c = record { phases = rw c.get.ensures.value at c.in_ok-answer.ensures.phases; told = c.in_ok-answer.ensures.report }
