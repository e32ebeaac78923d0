use Rattle.phase_windows.proofs.ProjectSteps.{front-differ, front-fits, others-differ, others-fit, put-beside, same-rounds}
use Rattle.phase_windows.proofs.items.run_project.Goals as goal

pub run_items-requires-clause-fits : goal.run_items-requires-clause-fits
run_items-requires-clause-fits g c κs within = others-fit c.args.items.now c.split_at.result.0.now c.split_at.result.1.now c.columns_in_front.result c.args.table.columns c.split_at.ensures.front c.split_at.ensures.back c.requires.fits

pub run_items-requires-clause-names : goal.run_items-requires-clause-names
run_items-requires-clause-names g c κs within = others-differ c.args.items.now c.split_at.result.0.now c.split_at.result.1.now c.columns_in_front.result c.args.table.columns c.split_at.ensures.front c.split_at.ensures.back c.requires.names

pub project_rows-requires-clause-fits : goal.project_rows-requires-clause-fits
project_rows-requires-clause-fits g c = front-fits c.args.items.now c.split_at.result.0.now c.split_at.result.1.now c.columns_in_front.result c.args.table.columns c.split_at.ensures.front c.split_at.ensures.back c.requires.fits

pub project_rows-requires-clause-names : goal.project_rows-requires-clause-names
project_rows-requires-clause-names g c = front-differ c.args.items.now c.split_at.result.0.now c.split_at.result.1.now c.columns_in_front.result c.args.table.columns c.split_at.ensures.front c.split_at.ensures.back c.requires.names

pub returns-clause-table : goal.returns-clause-table
returns-clause-table g c =
    put-beside c.args.items.now c.split_at.result.0.now c.split_at.result.1.now c.columns_in_front.result c.args.table c.in_ok-moved.moved c.in_ok-computed.field-0.table c.in_ok-projected.projected
    c.split_at.ensures.front c.split_at.ensures.back c.in_ok-moved.ensures.rows c.in_ok-computed.ensures.table c.in_ok-projected.ensures.columns

pub returns-clause-rounds : goal.returns-clause-rounds
returns-clause-rounds g c =
    same-rounds c.args.workers c.args.items.now c.split_at.result.0.now c.split_at.result.1.now c.columns_in_front.result c.in_ok-computed.field-0.gathered
    c.split_at.ensures.front c.split_at.ensures.back c.columns_in_front.ensures.calls c.in_ok-computed.ensures.rounds
