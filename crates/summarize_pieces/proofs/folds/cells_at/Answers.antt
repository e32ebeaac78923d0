use Rattle.std.proofs.Common.{◌∙◌, ap, map, sym}
use Rattle.kql_cells.specs.Seen.{seen}
use Rattle.summarize_pieces.proofs.PassSteps.{cells-start}
use Rattle.summarize_pieces.proofs.folds.cells_at.Goals as goal

pub loop-vector-init : goal.loop-vector-init
loop-vector-init c = ap (map seen) c.in_ok-cells.ensures.items ∙ sym (cells-start c.args.vectors.now c.args.g)
