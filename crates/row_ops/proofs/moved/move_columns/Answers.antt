use Rattle.std.proofs.Common.{rules}
use Rattle.row_ops.proofs.MovedFacts.{moved-made}
use Rattle.row_ops.proofs.moved.move_columns.Goals as goal

-- src/moved.rt:48:1
pub returns : goal.returns
returns c = record {
  rows = moved-made c.args.t c.in_ok-kept.kept c.with_schema-renamed.result c.args.items.now c.args.places.now c.in_ok-columns.columns (search rules) c.requires.moved c.in_ok-kept.ensures.columns (search rules) (search rules);
}
