use Rattle.std.proofs.Common.{◌∙◌, ap, get_or, map, subst, sym}
use Rattle.kql_cells.specs.Keys.{absent}
use Rattle.kql_cells.specs.Named.{HasDistinctNames, column_name}
use Rattle.kql_cells.specs.Seen.{seen}
use Rattle.kql_values.specs.Moves.{value_or}
use Rattle.join_op.proofs.ShownSteps.{vector-shown}
use Rattle.join_op.proofs.shown.vector_or_absent.Goals as goal

pub returns : goal.returns
returns c = record {
  cells = vector-shown c.args.right.now c.args.p c.index-columns-p.result c.args.places.now (seen c.absent-absent.result) c.in_ok-vector.vector
      (subst (HasDistinctNames column_name) c.schema.ensures.columns c.columns.ensures.distinct) c.schema.ensures.fits c.requires.column c.requires.within
      (c.index-columns-p.is ∙ ap (λ cs. get_or cs c.args.p c.index-columns-p.result) (c.columns.ensures.columns ∙ c.schema.ensures.columns))
      (c.absent-absent.ensures.value ∙ ap (λ d. absent d.kind) (sym c.index-columns-p.is))
      (c.in_ok-vector.ensures.cells ∙ ap (λ v. map (value_or (seen c.absent-absent.result) v) c.args.places.now) c.column.ensures.cells);
}
