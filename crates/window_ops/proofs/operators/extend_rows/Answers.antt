use Rattle.std.proofs.Common.{rules}
use Rattle.row_ops.proofs.ExtendFacts.{extended-table}
use Rattle.window_ops.proofs.operators.extend_rows.Goals as goal

-- src/extend.rt:34:1
pub returns : goal.returns
returns c = record {
  rows = extended-table c.args.items.now c.args.t c.in_ok-kept.kept c.in_ok-added.added c.in_ok-extended.extended c.as_slice-2.result.now c.in_ok-kept.ensures.columns c.in_ok-added.ensures.rows (search rules) (search rules) (search rules) c.in_ok-extended.ensures.columns;
}
