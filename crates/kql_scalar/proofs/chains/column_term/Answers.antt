use Rattle.kql_scalar.proofs.ChainSteps.{column-term}
use Rattle.kql_scalar.proofs.chains.column_term.Goals as goal

pub returns-in-Long : goal.returns-in-Long
returns-in-Long c = record {
  values = column-term c.args.t.now c.args.place c.column.result.now c.in_ok-numbers.numbers c.schema-schema.ensures.fits c.column.ensures.cells c.column.ensures.count c.requires
      c.in_ok-numbers.ensures.same c.in_ok-numbers.ensures.count c.in_ok-numbers.ensures.mask c.in-Long.is;
}
