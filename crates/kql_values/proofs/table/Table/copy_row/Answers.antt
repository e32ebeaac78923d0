use Rattle.kql_values.proofs.TableLaws.{table-row}
use Rattle.kql_values.proofs.table.Table.copy_row.Goals as goal

pub returns : goal.returns
returns c =
    let n = c.self.inside.count in
    let vs = c.self.inside.columns.items in
    record { same = rw (← c.self.view_is, table-row n vs c.args.i (rw (← c.self.view_is) at c.requires)) c.copy_row_of.ensures }
