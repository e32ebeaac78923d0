use Rattle.std.proofs.Common.{◌∙◌, ap}
use Rattle.kql_meaning.specs.MvExpand.{expand_columns}
use Rattle.table_ops.proofs.ExpandFacts.{table-made}
use Rattle.table_ops.proofs.expand.expand_rows.Goals as goal

pub returns : goal.returns
returns c = record {
  table = table-made c.args.x.now c.args.t.now c.in_ok-made.made c.in_ok-parts.parts c.from_items.result c.len.result c.into_vec.result.items c.from_columns-rows.result c.in_ok-parts.ensures.parts c.len.ensures.count
      (c.into_vec.ensures.items ∙ c.in_ok-vectors.ensures.cells) c.from_columns-rows.ensures.rows
      (c.from_items.ensures.columns ∙ (c.in_ok-columns.ensures.columns ∙ ap (expand_columns c.args.x.now) (c.columns.ensures.columns ∙ c.schema.ensures.columns))) c.in_ok-made.ensures.parts;
}
