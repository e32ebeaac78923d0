use Rattle.csv_io.proofs.LinesFacts.{backs-all, lines-all}
use Rattle.csv_io.proofs.print.push_lines.Goals as goal

pub returns : goal.returns
returns c = record {
  text = lines-all c.args.t.now c.args.out.now.items _ _ c.len.ensures.count c.in_ok-push_range.ensures.text;
  back = backs-all c.args.t.now.lines _ c.len.ensures.count c.in_ok-push_range.ensures.back;
}
