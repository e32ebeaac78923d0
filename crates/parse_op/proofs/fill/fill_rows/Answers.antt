use Rattle.std.proofs.Common.{rules}
use Rattle.kql_cells.specs.Seen.{seen}
use Rattle.parse_op.proofs.FillSteps.{grown-more}
use Rattle.parse_op.proofs.fill.fill_rows.Goals as goal

pub rows-preserved : goal.rows-preserved
rows-preserved c = record {
  count = c.fill_row.ensures.count;
  rows = grown-more c.args.p.now c.args.texts.now c.rows.i (seen c.cell.result) c.text_in.result.now c.rows.builder c.fill_row.new.builder (search rules) c.cell.ensures.same c.text_in.ensures.text c.rows.invariant.rows c.in_ok-fill_row.ensures.added;
}
