use Rattle.std.proofs.Common.{rules}
use Rattle.row_ops.proofs.CountSteps.{counted-table}
use Rattle.row_ops.proofs.filter.count_rows.Goals as goal

-- src/filter.rt:38:1
pub returns : goal.returns
returns c = record {
  rows = counted-table c.args.t.now c.in_ok-counted.counted c.push_cells.new.self c.in_ok-columns.columns _ c.in_ok-columns.ensures.columns (search rules) (search rules) (search rules) c.in_ok-push_cells.ensures.added;
}
