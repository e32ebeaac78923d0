use Rattle.std.proofs.lemmas.Option.{MatchOption-at_none}
use Rattle.kql_columns.proofs.ColumnSteps.{renamed-stop}
use Rattle.kql_columns.proofs.columns.with_renamed.Goals as goal

pub returns : goal.returns
returns c = record { columns = renamed-stop c.columns.made c.columns.rest.now _ (MatchOption-at_none _ _ c.in_default.is c.split_first.ensures.cases) c.columns.invariant }
