use Rattle.std.proofs.Common.{◌≤◌, ◌<◌, length, refl, sym, arith}
use Rattle.std.proofs.lemmas.List.{take_all}
use Rattle.kql_values.specs.Grids.{rows_of}
use Rattle.kql_values.proofs.GridLaws.{rows_of-length}
use Rattle.kql_values.proofs.TableLaws.{same-grid, table-first}
use Rattle.kql_values.proofs.table.Table.truncate.Goals as goal

pub invariant_of-self : goal.invariant_of-self
invariant_of-self c =
    let n = c.self.inside.count in
    let small = c.self.invariant.1 in
    let lt : c.args.count < n = omega arith in
    let t = table-first c.self.inside.schema n c.self.inside.columns.items c.truncate_each.new.columns.items c.args.count c.self.invariant.0 lt c.truncate_each.ensures in
    (t.0, omega arith)

pub returns-then-count-self : goal.returns-then-count-self
returns-then-count-self c =
    let n = c.self.inside.count in
    let lt : c.args.count < n = omega arith in
    let t = table-first c.self.inside.schema n c.self.inside.columns.items c.truncate_each.new.columns.items c.args.count c.self.invariant.0 lt c.truncate_each.ensures in
    record { rest = rw (← c.self.view_is) (same-grid _ _ _ _ refl t.1) }

pub returns-else-count-self : goal.returns-else-count-self
returns-else-count-self c =
    let n = c.self.inside.count in
    let vs = c.self.inside.columns.items in
    let size = rows_of-length n vs in
    let all : length (rows_of n vs) ≤ c.args.count = omega arith in
    record { rest = rw (← c.self.view_is) (same-grid _ _ _ _ refl (sym (take_all c.args.count (rows_of n vs) all))) }
