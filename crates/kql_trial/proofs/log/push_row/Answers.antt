use Rattle.std.proofs.Common.{◌∙◌, ap, map}
use Rattle.kql_cells.specs.Seen.{seen}
use Rattle.kql_trial.proofs.LogFacts.{row-fits}
use Rattle.kql_trial.proofs.log.push_row.Goals as goal

pub push_cells-requires : goal.push_cells-requires
push_cells-requires c = row-fits c.args.log.now.columns _ c.args.i c.args.draw c.requires.columns (ap (map seen) c.as_slice.ensures ∙ c.cells_of-cells.ensures.cells) c.ranges.i.fits
