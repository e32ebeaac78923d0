use Rattle.kql_plain.specs.AtHand.{world_of}
use Rattle.phase_partitions.proofs.OpSteps.{none-made, partition-made}
use Rattle.phase_partitions.proofs.keyed.run_partition.Goals as goal

pub run_keys-requires-clause-none : goal.run_keys-requires-clause-none
run_keys-requires-clause-none g c κs within =
    none-made c.args.ops.now (world_of c.args.catalogue.now c.args.lets.now) c.args.table.now c.in_ok-emptied.field-0 c.in_ok-made.made c.in_ok-none.none c.in_ok-emptied.ensures.rows c.in_ok-made.ensures.table c.in_ok-none.ensures.rows

pub returns-clause-table : goal.returns-clause-table
returns-clause-table g c =
    partition-made c.args.key.now c.args.ops.now (world_of c.args.catalogue.now c.args.lets.now) c.args.table.now c.in_ok-ran.ran.table c.in_ok-lists.lists c.in_ok-lists.ensures.rows c.in_ok-ran.ensures.columns c.in_ok-ran.ensures.lines
