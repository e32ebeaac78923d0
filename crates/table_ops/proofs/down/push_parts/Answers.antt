use Rattle.std.proofs.Common.{refl}
use Rattle.kql_cells.specs.Seen.{seen}
use Rattle.table_ops.proofs.DownFacts.{converted-more, converted-none}
use Rattle.table_ops.proofs.down.push_parts.Goals as goal

pub loop-k-init : goal.loop-k-init
loop-k-init c = converted-none c.args.array c.args.to (seen c.args.cell) c.args.out.now

pub loop-k-preserved : goal.loop-k-preserved
loop-k-preserved c = converted-more _ _ _ _ _ _ _ _ refl c.loop-k.invariant c.in_ok-push_part.ensures.added
