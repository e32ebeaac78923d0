use Rattle.std.proofs.Common.{◌∙◌, ap}
use Rattle.kql_cells.specs.Seen.{seen}
use Rattle.summarize_pieces.proofs.ItemSteps.{map-end, map-more, map-start}
use Rattle.summarize_pieces.proofs.finish.push_cells.Goals as goal

pub cells-init : goal.cells-init
cells-init c = map-start seen c.args.cells.now c.args.line.now

pub cells-preserved : goal.cells-preserved
cells-preserved c = map-more seen c.args.cells.now c.cells.cell-index c.cell-item.result c.in_ok-value.value c.args.line.now c.cells.line c.push.new.self c.cells-test.true c.cells.invariant (c.in_ok-value.ensures.same ∙ ap seen c.cell-item.is) c.in_ok-push.ensures.added

pub returns : goal.returns
returns c = record { pushed = map-end seen c.args.cells.now c.cells.cell-index c.args.line.now c.cells.line c.cells-test.false c.cells.invariant }
