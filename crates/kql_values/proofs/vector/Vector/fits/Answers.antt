use Rattle.std.proofs.Common.{rules}
use Rattle.kql_cells.specs.Seen.{seen}
use Rattle.kql_values.proofs.FittingLaws.{all-fit, fits-more}
use Rattle.kql_values.proofs.vector.Vector.fits.Goals as goal

pub loop-i-preserved : goal.loop-i-preserved
loop-i-preserved c = fits-more c.args.column.now c.args.self.now c.loop-i.i (seen c.cell.result) c.cell_fits.result (search rules) c.cell.ensures.same c.cell_fits.ensures.fits (search rules) c.loop-i.invariant

pub returns : goal.returns
returns c = record { fits = all-fit c.args.column.now c.args.self.now c.loop-i.i (search rules) c.loop-i.invariant }
