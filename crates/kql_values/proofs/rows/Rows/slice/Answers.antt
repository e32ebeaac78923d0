use Rattle.std.proofs.Common.{◌≤◌, length, arith}
use Rattle.kql_values.specs.Grids.{rows_of}
use Rattle.kql_values.proofs.GridLaws.{HaveLength-part, rows_of-part, rows_of-length}
use Rattle.kql_values.proofs.rows.Rows.slice.Goals as goal

pub invariant_of-result : goal.invariant_of-result
invariant_of-result c =
    let n = c.self.inside.count in
    let cs = c.self.inside.columns.items in
    let within : c.args.to ≤ length (rows_of n cs) = rw (← c.self.view_is) at c.requires.within in
    let up : c.args.to ≤ n = rw (rows_of-length n cs) at within in
    let small = c.self.invariant.1 in
    (rw c.in_ok-columns.ensures (HaveLength-part n cs c.args.from c.args.to c.requires.order up c.self.invariant.0), omega arith)

pub returns : goal.returns
returns c =
    let n = c.self.inside.count in
    let cs = c.self.inside.columns.items in
    let within : c.args.to ≤ length (rows_of n cs) = rw (← c.self.view_is) at c.requires.within in
    let up : c.args.to ≤ n = rw (rows_of-length n cs) at within in
    record { part = rw (← c.self.view_is, c.in_ok-columns.ensures) (rows_of-part n cs c.args.from c.args.to c.requires.order up) }
