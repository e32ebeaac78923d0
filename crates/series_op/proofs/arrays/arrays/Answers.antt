use Rattle.std.proofs.Common.{◌∙◌, sym}
use Rattle.kql_cells.specs.Seen.{seen}
use Rattle.series_op.proofs.ArraySteps.{groups-start}
use Rattle.series_op.proofs.arrays.arrays.Goals as goal

pub groups-init : goal.groups-init
groups-init c = c.new-made.ensures.empty ∙ sym (groups-start c.args.column.now (seen c.args.default) c.args.groups.now c.args.places.now c.args.count)
