use Rattle.std.proofs.lemmas.Option.{MatchOption-at_none}
use Rattle.kql_columns.proofs.ColumnSteps.{tables-stop}
use Rattle.kql_columns.proofs.columns.all_in_order.Goals as goal

pub returns : goal.returns
returns c = record { columns = tables-stop c.tables.all c.tables.left.now _ (MatchOption-at_none _ _ c.in_default.is c.split_first.ensures.cases) c.tables.invariant }
