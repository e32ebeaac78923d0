use Rattle.std.proofs.Common.{◌∙◌, ap₂, subst}
use Rattle.kql_cells.specs.Named.{HasDistinctNames, column_name}
use Rattle.kql_meaning.specs.Join.{both_columns}
use Rattle.join_op.proofs.ShownSteps.{table-fits, table-made}
use Rattle.join_op.proofs.shown.with_right.Goals as goal

pub new-requires : goal.new-requires
new-requires c =
    table-fits c.args.j.now c.args.left c.args.right.now c.args.places.now c.into_columns-count.result.1 c.into_columns-count.result.2.items c.in_ok-shown.shown.items c.append.new.self.items c.from_columns-rows.result c.from_items.result
    c.schema.ensures.fits (subst (HasDistinctNames column_name) c.schema-2.ensures.columns c.columns-2.ensures.distinct) c.schema-2.ensures.fits c.requires.within c.requires.count
    c.into_columns-count.ensures.lines c.in_ok-shown.ensures.cells c.in_ok-append.ensures.items c.from_columns-rows.ensures.rows
    (c.from_items.ensures.columns ∙ (c.in_ok-columns.ensures.columns ∙ ap₂ (both_columns c.args.j.now) (c.columns.ensures.columns ∙ c.schema.ensures.columns) (c.columns-2.ensures.columns ∙ c.schema-2.ensures.columns)))

pub returns : goal.returns
returns c = record {
  rows = table-made c.args.j.now c.args.left c.args.right.now c.in_ok-made.made c.args.places.now c.into_columns-count.result.1 c.into_columns-count.result.2.items c.in_ok-shown.shown.items c.append.new.self.items c.from_columns-rows.result c.from_items.result
      c.requires.count c.into_columns-count.ensures.lines c.in_ok-shown.ensures.cells c.in_ok-append.ensures.items c.from_columns-rows.ensures.rows
      (c.from_items.ensures.columns ∙ (c.in_ok-columns.ensures.columns ∙ ap₂ (both_columns c.args.j.now) (c.columns.ensures.columns ∙ c.schema.ensures.columns) (c.columns-2.ensures.columns ∙ c.schema-2.ensures.columns)))
      c.in_ok-made.ensures.parts;
}
