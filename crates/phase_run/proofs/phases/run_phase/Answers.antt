use Rattle.std.proofs.Common.{refl}
use Rattle.kql_plain.specs.AtHand.{world_of}
use Rattle.kql_plain.specs.Inputs.{input_table}
use Rattle.phase_run.proofs.AloneSteps.{alone-fits, alone-made}
use Rattle.phase_run.proofs.AloneTold.{alone-told}
use Rattle.phase_run.proofs.PhaseSteps.{same-made}
use Rattle.phase_run.proofs.phases.run_phase.Goals as goal

pub returns-in-Same-clause-table : goal.returns-in-Same-clause-table
returns-in-Same-clause-table g c = same-made c.args.ops.now (world_of c.args.catalogue.now c.args.lets.now) (input_table c.args.from) (c.requires.same c.in-Same.is)

pub run_alone-requires-clause-fits : goal.run_alone-requires-clause-fits
run_alone-requires-clause-fits g c κs within =
    alone-fits c.args.ops.now c.index-ops-0.result (world_of c.args.catalogue.now c.args.lets.now) (input_table c.args.from) (input_table c.args.from) (c.requires.alone c.in-Alone.is) c.index-ops-0.is refl c.requires.fits

pub returns-in-Alone-clause-table : goal.returns-in-Alone-clause-table
returns-in-Alone-clause-table g c =
    alone-made c.args.ops.now c.index-ops-0.result (world_of c.args.catalogue.now c.args.lets.now) (input_table c.args.from) (input_table c.args.from) c.in_ok-table-in-Alone.table (c.requires.alone c.in-Alone.is) c.index-ops-0.is refl c.in_ok-table-in-Alone.ensures.table

pub returns-in-Alone-clause-told : goal.returns-in-Alone-clause-told
returns-in-Alone-clause-told g c =
    alone-told c.args.phases.now c.run_alone.new.phases c.args.ops.now c.index-ops-0.result c.args.form (c.requires.alone c.in-Alone.is) c.index-ops-0.is c.in-Alone.is c.in_ok-table-in-Alone.ensures.told
