use Rattle.kql_cells.specs.Seen.{seen}
use Rattle.kql_views.proofs.CellForms.{form-at}
use Rattle.kql_views.proofs.cells.cell_of.Goals as goal

pub returns-clause-form : goal.returns-clause-form
returns-clause-form c = form-at c.args.table.now.columns c.args.j (seen c.cell.result) c.requires.column c.cell.ensures.fits
