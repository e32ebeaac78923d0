use Rattle.kql_plain.specs.AtHand.{world_of}
use Rattle.kql_plain.specs.Inputs.{input_table}
use Rattle.phase_run.proofs.AloneSteps.{extend-fits, extend-names, groups-fit, project-fits, project-names, series-fit, top-fits}
use Rattle.phase_run.proofs.PartSteps.{key-at-hand, known, ops-at-hand, partition-made}
use Rattle.phase_run.proofs.ToldSteps.{along, extend-told, groups-told, partition-told, project-told, series-told, top-told}
use Rattle.phase_run.proofs.alone.run_alone.Goals as goal

-- What each asks.

pub run_told_extend-requires-clause-fits : goal.run_told_extend-requires-clause-fits
run_told_extend-requires-clause-fits g c κs within =
    extend-fits c.args.op.now c.in-Extend.items c.as_slice.result.now (world_of c.args.catalogue.now c.args.lets.now) (input_table c.args.from) c.in_ok-table-in-Extend.table c.in-Extend.is c.as_slice.ensures.items c.in_ok-table-in-Extend.ensures.table c.requires.fits

pub run_told_extend-requires-clause-names : goal.run_told_extend-requires-clause-names
run_told_extend-requires-clause-names g c κs within =
    extend-names c.args.op.now c.in-Extend.items c.as_slice.result.now (world_of c.args.catalogue.now c.args.lets.now) (input_table c.args.from) c.in_ok-table-in-Extend.table c.in-Extend.is c.as_slice.ensures.items c.in_ok-table-in-Extend.ensures.table c.requires.fits

pub run_told_project-requires-clause-fits : goal.run_told_project-requires-clause-fits
run_told_project-requires-clause-fits g c κs within =
    project-fits c.args.op.now c.in-Project.items c.as_slice-in-Project.result.now (world_of c.args.catalogue.now c.args.lets.now) (input_table c.args.from) c.in-Project.is c.as_slice-in-Project.ensures.items c.requires.fits

pub run_told_project-requires-clause-names : goal.run_told_project-requires-clause-names
run_told_project-requires-clause-names g c κs within =
    project-names c.args.op.now c.in-Project.items c.as_slice-in-Project.result.now (world_of c.args.catalogue.now c.args.lets.now) (input_table c.args.from) c.in-Project.is c.as_slice-in-Project.ensures.items c.requires.fits

pub run_told_top-requires-clause-fits : goal.run_told_top-requires-clause-fits
run_told_top-requires-clause-fits g c κs within =
    top-fits c.args.op.now c.in-Top.n c.in-Top.keys c.as_slice-in-Top.result.now (world_of c.args.catalogue.now c.args.lets.now) (input_table c.args.from) c.as_table.result.now c.in-Top.is c.as_slice-in-Top.ensures.items c.as_table.ensures.table c.requires.fits

pub run_told_groups-requires-clause-fits : goal.run_told_groups-requires-clause-fits
run_told_groups-requires-clause-fits g c κs within =
    groups-fit c.args.op.now c.in-Summarize.plan (world_of c.args.catalogue.now c.args.lets.now) (input_table c.args.from) c.as_table-in-Summarize.result.now c.in-Summarize.is c.as_table-in-Summarize.ensures.table c.requires.fits

pub run_told_series-requires-clause-fits : goal.run_told_series-requires-clause-fits
run_told_series-requires-clause-fits g c κs within =
    series-fit c.args.op.now c.in-MakeSeries.series (world_of c.args.catalogue.now c.args.lets.now) (input_table c.args.from) c.as_table-in-MakeSeries.result.now c.in-MakeSeries.is c.as_table-in-MakeSeries.ensures.table c.requires.fits

-- What each tells.

pub returns-in_ok-table-in-Extend-clause-told : goal.returns-in_ok-table-in-Extend-clause-told
returns-in_ok-table-in-Extend-clause-told g c =
    along c.run_told_extend.result _ _ (extend-told c.args.phases.now c.run_told_extend.new.phases c.args.op.now c.in-Extend.items c.as_slice.result.now c.in-Extend.is c.as_slice.ensures.items) c.run_told_extend.ensures.told

pub returns-in-Project-clause-told : goal.returns-in-Project-clause-told
returns-in-Project-clause-told g c =
    along c.run_told_project.result _ _ (project-told c.args.phases.now c.run_told_project.new.phases c.args.op.now c.in-Project.items c.as_slice-in-Project.result.now c.in-Project.is c.as_slice-in-Project.ensures.items) c.run_told_project.ensures.told

pub returns-in-Top-clause-told : goal.returns-in-Top-clause-told
returns-in-Top-clause-told g c = along c.run_told_top.result _ _ (top-told c.args.phases.now c.run_told_top.new.phases c.args.op.now c.in-Top.n c.in-Top.keys c.in-Top.is) c.run_told_top.ensures.told

pub returns-in-Summarize-clause-told : goal.returns-in-Summarize-clause-told
returns-in-Summarize-clause-told g c =
    along c.run_told_groups.result _ _ (groups-told c.args.phases.now c.run_told_groups.new.phases c.args.op.now c.in-Summarize.plan c.in-Summarize.is) c.run_told_groups.ensures.told

pub returns-in-MakeSeries-clause-told : goal.returns-in-MakeSeries-clause-told
returns-in-MakeSeries-clause-told g c =
    along c.run_told_series.result _ _ (series-told c.args.phases.now c.run_told_series.new.phases c.args.op.now c.in-MakeSeries.series c.in-MakeSeries.is) c.run_told_series.ensures.told

-- A partition.

pub run_told_partition-requires-clause-column : goal.run_told_partition-requires-clause-column
run_told_partition-requires-clause-column g c κs within =
    key-at-hand c.args.op.now c.in-Partition.key c.as_str.result.now c.in-Partition.ops (world_of c.args.catalogue.now c.args.lets.now) (input_table c.args.from) c.as_table-in-Partition.result.now c.in-Partition.is c.as_str.ensures.same c.as_table-in-Partition.ensures.table c.requires.fits

pub run_told_partition-requires-clause-fits : goal.run_told_partition-requires-clause-fits
run_told_partition-requires-clause-fits g c κs within =
    ops-at-hand c.args.op.now c.in-Partition.key c.in-Partition.ops c.as_slice-in-Partition.result.now (world_of c.args.catalogue.now c.args.lets.now) (input_table c.args.from) c.as_table-in-Partition.result.now c.in-Partition.is c.as_slice-in-Partition.ensures.items c.as_table-in-Partition.ensures.table c.requires.fits

pub returns-in-Partition-clause-told : goal.returns-in-Partition-clause-told
returns-in-Partition-clause-told g c =
    along c.run_told_partition.result _ _ (partition-told c.args.phases.now c.run_told_partition.new.phases c.args.op.now c.in-Partition.key c.in-Partition.ops c.in-Partition.is) c.run_told_partition.ensures.told

pub returns-in-Partition-clause-table : goal.returns-in-Partition-clause-table
returns-in-Partition-clause-table g c =
    known c.run_told_partition.result
    (partition-made c.args.op.now c.in-Partition.key c.as_str.result.now c.in-Partition.ops c.as_slice-in-Partition.result.now (world_of c.args.catalogue.now c.args.lets.now) (input_table c.args.from) c.as_table-in-Partition.result.now c.in-Partition.is c.as_str.ensures.same c.as_slice-in-Partition.ensures.items c.as_table-in-Partition.ensures.table)
    c.run_told_partition.ensures.table
