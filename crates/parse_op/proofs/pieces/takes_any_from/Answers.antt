use Rattle.parse_op.proofs.PieceSteps.{dynamic-any, relaxed-any, text-any}
use Rattle.parse_op.proofs.pieces.takes_any_from.Goals as goal

pub returns-then-relaxed : goal.returns-then-relaxed
returns-then-relaxed c = record {
  any = relaxed-any c.args.relaxed c.args.item.now c.in-Column.name c.in-Column.kind c.args.later.now c.args.text.now c.args.start c.is_number_before_star.result c.in-Column.is c.if-relaxed.true c.is_number_before_star.ensures c.if-is_number_before_star.false;
}

pub returns-in-Text : goal.returns-in-Text
returns-in-Text c = record {
  any = text-any c.args.relaxed c.args.item.now c.in-Column.name c.in-Column.kind c.args.later.now c.args.text.now c.args.start c.in-Column.is c.in-Text.is;
}

pub returns-in-Dynamic : goal.returns-in-Dynamic
returns-in-Dynamic c = record {
  any = dynamic-any c.args.relaxed c.args.item.now c.in-Column.name c.in-Column.kind c.args.later.now c.args.text.now c.args.start c.in-Column.is c.in-Dynamic.is;
}
