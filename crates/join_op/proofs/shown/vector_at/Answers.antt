use Rattle.std.proofs.Common.{◌∙◌, ap, map, subst}
use Rattle.kql_cells.specs.Named.{HasDistinctNames, column_name}
use Rattle.kql_cells.specs.Seen.{value_at}
use Rattle.join_op.proofs.ShownSteps.{vector-at}
use Rattle.join_op.proofs.shown.vector_at.Goals as goal

pub returns : goal.returns
returns c = record {
  cells = vector-at c.args.right.now c.args.p c.args.rows.now c.in_ok-vector.vector
      (subst (HasDistinctNames column_name) c.schema.ensures.columns c.columns-known.ensures.distinct) c.schema.ensures.fits c.requires.column c.requires.within
      (c.in_ok-vector.ensures.cells ∙ ap (λ v. map (value_at v) c.args.rows.now) c.column.ensures.cells);
}
