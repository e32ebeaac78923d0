use Rattle.std.proofs.Common.{arith, length}
use Rattle.parse_op.proofs.FillSteps.{grown-all}
use Rattle.parse_op.proofs.fill.parsed_table.Goals as goal

pub returns : goal.returns
returns c = record {
  rows = grown-all c.args.p.now c.args.texts.now (length c.args.texts.now) c.fill_rows.new.builder c.finish.result c.in_ok-fill_rows.ensures.filled (omega arith) c.finish.ensures.table;
}
