use Rattle.kql_scalar.proofs.FormFacts.{cell-form}
use Rattle.kql_scalar.proofs.cells.cell_in.Goals as goal

pub returns-clause-form : goal.returns-clause-form
returns-clause-form c = cell-form c.args.t.now.columns c.args.place _ c.requires.column c.cell.ensures.fits
