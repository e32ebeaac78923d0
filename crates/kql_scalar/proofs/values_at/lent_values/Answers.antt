use Rattle.std.proofs.Common.{◌∙◌, length}
use Rattle.kql_scalar.proofs.ColumnSteps.{column-values}
use Rattle.kql_scalar.proofs.values_at.lent_values.Goals as goal

pub returns-in-Column-clause-values : goal.returns-in-Column-clause-values
returns-in-Column-clause-values c =
    c.whole_column.ensures.values ∙ column-values c.args.node.now _ c.in-Column.place c.args.t.now 0 (length c.args.t.now.lines) c.requires.placed c.in-Column.is
