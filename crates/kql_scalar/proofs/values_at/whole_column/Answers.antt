use Rattle.kql_scalar.proofs.WholeSteps.{whole-values}
use Rattle.kql_scalar.proofs.values_at.whole_column.Goals as goal

pub returns-clause-values : goal.returns-clause-values
returns-clause-values c = whole-values c.args.t.now c.args.place c.column.result.now c.schema-schema.ensures.fits c.column.ensures.cells c.requires.column
