use Rattle.std.proofs.lemmas.Option.{MatchOption-at_none}
use Rattle.kql_columns.proofs.ColumnSteps.{distinct-stop}
use Rattle.kql_columns.proofs.columns.distinct_columns.Goals as goal

pub returns : goal.returns
returns c = record { columns = distinct-stop c.columns.made c.columns.rest.now _ (MatchOption-at_none _ _ c.in_default.is c.split_first.ensures.cases) c.columns.invariant }
