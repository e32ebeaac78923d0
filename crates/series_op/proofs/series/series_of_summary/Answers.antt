use Rattle.std.proofs.Common.{◌≡◌, ◌∙◌, ap, subst}
use Rattle.kql_cells.specs.Named.{HasDistinctNames, column_name}
use Rattle.kql_meaning.specs.MakeSeries.{series_columns}
use Rattle.series_op.proofs.SeriesSteps.{table-fits, table-is}
use Rattle.series_op.proofs.series.series_of_summary.Goals as goal

-- the columns of the answer
named : (c : goal.After-from_items) → c.from_items.result ≡ series_columns c.args.series.now c.args.t.now.columns
named c = c.from_items.ensures.columns ∙ (c.in_ok-named.ensures.columns ∙ ap (series_columns c.args.series.now) (c.columns.ensures.columns ∙ c.schema.ensures.columns))

pub new-requires : goal.new-requires
new-requires c =
    table-fits c.args.series.now c.args.t.now c.args.inside.now c.in_ok-columns.field-0.count c.in_ok-columns.field-0.columns.items c.from_columns-rows.result c.from_items.result c.requires.fits (subst (HasDistinctNames column_name) c.schema.ensures.columns c.columns.ensures.distinct) c.schema.ensures.fits c.requires.inside c.in_ok-columns.ensures.rows c.from_columns-rows.ensures.rows (named c)

pub returns : goal.returns
returns c =
    record {
      rows = table-is c.args.series.now c.args.t.now c.args.inside.now c.in_ok-made.made c.in_ok-columns.field-0.count c.in_ok-columns.field-0.columns.items c.from_columns-rows.result c.from_items.result c.requires.inside c.in_ok-columns.ensures.rows c.from_columns-rows.ensures.rows
          (c.from_items.ensures.columns ∙ (c.in_ok-named.ensures.columns ∙ ap (series_columns c.args.series.now) (c.columns.ensures.columns ∙ c.schema.ensures.columns)))
          c.in_ok-made.ensures.parts;
    }
