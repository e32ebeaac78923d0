use Rattle.scan_ops.proofs.KeyedFacts.{bare-declared}
use Rattle.phase_scans.proofs.scans.run_keyed_scan.Goals as goal

pub run_lists-requires-clause-extended : goal.run_lists-requires-clause-extended
run_lists-requires-clause-extended g c κs within = bare-declared c.args.scan.now c.args.table.now c.is_empty.result c.is_empty.ensures.empty c.if-is_empty.true
