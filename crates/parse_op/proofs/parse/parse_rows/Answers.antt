use Rattle.std.proofs.Common.{ap, subst, ◌∙◌}
use Rattle.kql_cells.specs.Named.{HasDistinctNames, column_name}
use Rattle.parse_op.specs.Filled.{places_without}
use Rattle.parse_op.proofs.ParseSteps.{parsed-table, pattern-differs}
use Rattle.parse_op.proofs.parse.parse_rows.Goals as goal

pub pieces_of_rows-requires-clause-names : goal.pieces_of_rows-requires-clause-names
pieces_of_rows-requires-clause-names c = pattern-differs c.args.p.now c.args.t.columns c.requires.names

pub returns : goal.returns
returns c = record {
  table = parsed-table c.args.p.now c.args.t c.in_ok-kept.kept c.in_ok-added.added c.in_ok-parsed.parsed c.columns.result.now c.as_slice.result.now c.in_ok-kept.ensures.columns c.in_ok-added.ensures.rows
      (c.columns.ensures.columns ∙ c.schema.ensures.columns)
      (c.as_slice.ensures.items ∙ (c.in_ok-places.ensures.places ∙ ap (places_without c.columns.result.now) (c.columns-2.ensures.columns ∙ c.schema-2.ensures.columns)))
      (subst (HasDistinctNames column_name) c.schema-2.ensures.columns c.columns-2.ensures.distinct)
      c.schema-2.ensures.fits
      c.in_ok-parsed.ensures.columns;
}
