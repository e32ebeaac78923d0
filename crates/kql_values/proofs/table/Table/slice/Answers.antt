use Rattle.std.proofs.Common.{◌≤◌, length, arith}
use Rattle.kql_values.specs.Grids.{rows_of}
use Rattle.kql_values.proofs.GridLaws.{rows_of-length}
use Rattle.kql_values.proofs.TableLaws.{same-grid, table-part}
use Rattle.kql_values.proofs.table.Table.slice.Goals as goal

pub invariant_of-result : goal.invariant_of-result
invariant_of-result c =
    let n = c.self.inside.count in
    let vs = c.self.inside.columns.items in
    let within : c.args.to ≤ length (rows_of n vs) = rw (← c.self.view_is) at c.requires.within in
    let size = rows_of-length n vs in
    let small = c.self.invariant.1 in
    let t = table-part c.self.inside.schema n vs c.in_ok-columns.columns.items c.args.from c.args.to c.self.invariant.0 c.requires.order within c.in_ok-columns.ensures in
    (rw c.in_ok-schema.ensures.same t.0, omega arith)

pub returns : goal.returns
returns c =
    let n = c.self.inside.count in
    let vs = c.self.inside.columns.items in
    let within : c.args.to ≤ length (rows_of n vs) = rw (← c.self.view_is) at c.requires.within in
    let t = table-part c.self.inside.schema n vs c.in_ok-columns.columns.items c.args.from c.args.to c.self.invariant.0 c.requires.order within c.in_ok-columns.ensures in
    record { part = rw (← c.self.view_is) (same-grid _ _ _ _ c.in_ok-schema.ensures.same t.1) }
