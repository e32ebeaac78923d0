use Rattle.std.proofs.Common.{◌≡◌, refl}
use Rattle.kql_values.specs.Moves.{kinds_of}
use Rattle.kql_values.proofs.TableLaws.{kinds-width, same-grid, table-appended}
use Rattle.kql_values.proofs.table.Table.append.Goals as goal

pub append_to_each-requires-clause-width : goal.append_to_each-requires-clause-width
append_to_each-requires-clause-width c =
    let cs = c.self.inside.schema in
    let ds = c.more.inside.schema in
    let kinds : kinds_of ds ≡ kinds_of cs = rw (← c.self.view_is, ← c.more.view_is) at c.requires in
    kinds-width cs ds c.self.inside.count c.more.inside.count c.self.inside.columns.items c.more.inside.columns.items kinds c.self.invariant.0 c.more.invariant.0

pub invariant_of-self-2 : goal.invariant_of-self-2
invariant_of-self-2 c =
    let cs = c.self.inside.schema in
    let ds = c.more.inside.schema in
    let kinds : kinds_of ds ≡ kinds_of cs = rw (← c.self.view_is, ← c.more.view_is) at c.requires in
    let t = table-appended cs ds c.self.inside.count c.more.inside.count c.in_ok-count.count c.self.inside.columns.items c.more.inside.columns.items c.append_to_each.new.columns.items kinds c.self.invariant.0 c.more.invariant.0 c.in_ok-count.ensures.sum.0 c.in_ok-append_to_each.ensures.added in
    (t.0, c.in_ok-count.ensures.sum.1)

pub returns-clause-added : goal.returns-clause-added
returns-clause-added c =
    let cs = c.self.inside.schema in
    let ds = c.more.inside.schema in
    let kinds : kinds_of ds ≡ kinds_of cs = rw (← c.self.view_is, ← c.more.view_is) at c.requires in
    let t = table-appended cs ds c.self.inside.count c.more.inside.count c.in_ok-count.count c.self.inside.columns.items c.more.inside.columns.items c.append_to_each.new.columns.items kinds c.self.invariant.0 c.more.invariant.0 c.in_ok-count.ensures.sum.0 c.in_ok-append_to_each.ensures.added in
    rw (← c.self.view_is, ← c.more.view_is) (same-grid _ _ _ _ refl t.1)
