use Rattle.kql_plain.specs.AtHand.{world_of}
use Rattle.phase_partitions.proofs.OpSteps.{piece-made}
use Rattle.phase_partitions.proofs.keyed.made_of_piece.Goals as goal

pub returns : goal.returns
returns c = record {
  table = piece-made c.args.ops.now (world_of c.args.catalogue.now c.args.lets.now) c.args.table.now c.args.none.now c.in_ok-made.made c.args.lists.now c.args.keys c.args.piece c.len.result c.bounds_of-bounds.result.from c.bounds_of-bounds.result.to
      c.len.ensures.count c.bounds_of-bounds.ensures.from c.bounds_of-bounds.ensures.to c.requires.none c.in_ok-made.ensures.columns c.in_ok-made.ensures.lines;
}
