use Rattle.kql_cells.specs.Seen.{seen}
use Rattle.table_ops.proofs.DownFacts.{down-step}
use Rattle.table_ops.proofs.down.parts_down.Goals as goal

pub loop-i-preserved : goal.loop-i-preserved
loop-i-preserved c = down-step c.args.array c.args.to c.args.values.now c.args.counts.now c.loop-i.i (seen c.cell.result) c.loop-i.out c.push_parts.new.out c.cell.ensures.same c.loop-i.invariant c.in_ok-push_parts.ensures.added
