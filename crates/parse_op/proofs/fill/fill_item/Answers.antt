use Rattle.parse_op.proofs.FillSteps.{column-adds, its-column, literal-adds}
use Rattle.parse_op.proofs.fill.fill_item.Goals as goal

pub fill_piece-requires : goal.fill_piece-requires
fill_piece-requires c = record {
  column = its-column c.args.builder.now c.args.item.now c.in-Column.name c.in-Column.kind c.in-Column.is c.requires.column;
}

pub returns-in-Literal : goal.returns-in-Literal
returns-in-Literal c = record {
  added = literal-adds c.args.builder.now c.args.item.now c.in-Literal.field-0 c.args.piece.now c.in-Literal.is;
}

pub returns-in-Column : goal.returns-in-Column
returns-in-Column c = record {
  added = column-adds c.fill_piece.result c.args.builder.now c.fill_piece.new.builder c.args.item.now c.in-Column.name c.in-Column.kind c.args.piece.now c.in-Column.is c.fill_piece.ensures.added;
}
