use Rattle.std.proofs.Common.{◌∙◌, ap, map, sym}
use Rattle.kql_cells.specs.Seen.{seen}
use Rattle.summarize_op.proofs.AppliedSteps.{cells-start}
use Rattle.summarize_op.proofs.applied.cells_at.Goals as goal

pub loop-vector-init : goal.loop-vector-init
loop-vector-init c = ap (map seen) c.in_ok-cells.ensures.items ∙ sym (cells-start c.args.vectors.now c.args.g)
