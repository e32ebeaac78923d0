use Rattle.std.proofs.Common.{◌<◌, [], length}
use Rattle.kql_values.specs.Grids.{rows_of}
use Rattle.kql_values.proofs.GridLaws.{rows_of-at, rows_of-length}
use Rattle.kql_values.proofs.rows.Rows.copy_row.Goals as goal

pub returns : goal.returns
returns c =
    let n = c.self.inside.count in
    let cs = c.self.inside.columns.items in
    let within : c.args.i < length (rows_of n cs) = rw (← c.self.view_is) at c.requires in
    let lt : c.args.i < n = rw (rows_of-length n cs) at within in
    record { same = rw (← c.self.view_is, rows_of-at n cs c.args.i [] lt) c.copy_row_of.ensures }
