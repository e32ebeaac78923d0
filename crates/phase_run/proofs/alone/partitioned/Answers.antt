use Rattle.kql_plain.specs.AtHand.{world_of}
use Rattle.phase_run.proofs.PartSteps.{scan-asks}
use Rattle.phase_run.proofs.alone.partitioned.Goals as goal

pub run_keyed_scan-requires-clause-fits : goal.run_keyed_scan-requires-clause-fits
run_keyed_scan-requires-clause-fits g c κs within = scan-asks c.args.ops.now c.in-Some.scan.now (world_of c.args.catalogue.now c.args.lets.now) c.args.table.now c.in-Some.ensures.alone c.requires.fits
