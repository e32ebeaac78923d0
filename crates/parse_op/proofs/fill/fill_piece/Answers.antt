use Rattle.kql_cells.specs.Seen.{seen}
use Rattle.parse_op.proofs.FillSteps.{empty-cell, shows-form}
use Rattle.parse_op.proofs.fill.fill_piece.Goals as goal

pub fill_cell-requires-clause-form : goal.fill_cell-requires-clause-form
fill_cell-requires-clause-form c = shows-form c.args.kind (seen c.absent.result) c.absent.ensures.value

pub returns-then-is_empty : goal.returns-then-is_empty
returns-then-is_empty c = record {
  added = empty-cell c.fill_cell.result c.args.builder.now c.fill_cell.new.builder (seen c.absent.result) c.args.kind c.args.piece.now c.is_empty.result c.is_empty.ensures c.if-is_empty.true c.absent.ensures.value c.fill_cell.ensures.added;
}
