use Rattle.std.proofs.Common.{◌≡◌, subst}
use Rattle.std.specs.Prelude.{IfOk}
use Rattle.kql_scalar.proofs.ColumnSteps.{slice-values}
use Rattle.kql_scalar.proofs.values_at.column_at.Goals as goal

pub returns : goal.returns
returns c = record {
  values = subst (λ vs. IfOk c.slice.result (λ v. v ≡ vs))
      (slice-values c.args.t.now c.args.place c.args.from c.args.to c.column.result.now c.schema-schema.ensures.fits c.column.ensures.cells c.requires.column c.requires.order c.requires.range)
      c.slice.ensures.part;
}
