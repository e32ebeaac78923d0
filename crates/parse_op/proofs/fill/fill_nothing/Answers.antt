use Rattle.kql_cells.specs.Seen.{seen}
use Rattle.parse_op.proofs.FillSteps.{its-column, shows-form}
use Rattle.parse_op.proofs.fill.fill_nothing.Goals as goal

pub fill_cell-requires-clause-column : goal.fill_cell-requires-clause-column
fill_cell-requires-clause-column c = its-column c.args.builder.now c.args.item.now c.in-Column.name c.in-Column.kind c.in-Column.is c.requires.column

pub fill_cell-requires-clause-form : goal.fill_cell-requires-clause-form
fill_cell-requires-clause-form c = shows-form c.in-Column.kind (seen c.absent.result) c.absent.ensures.value
