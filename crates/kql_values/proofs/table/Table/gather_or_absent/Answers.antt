use Rattle.std.proofs.Common.{rules}
use Rattle.kql_values.proofs.TableLaws.{same-grid, table-or_absent}
use Rattle.kql_values.proofs.table.Table.gather_or_absent.Goals as goal

pub invariant_of-result : goal.invariant_of-result
invariant_of-result c =
    let made = rw c.columns.ensures.columns at c.in_ok-columns.ensures in
    let t = table-or_absent c.self.inside.schema c.self.inside.count c.self.inside.columns.items c.in_ok-columns.columns.items c.args.places.now c.self.invariant.0 (rw (← c.self.view_is) at c.requires) made in
    (rw c.in_ok-schema.ensures.same t.0, search rules)

pub returns : goal.returns
returns c =
    let made = rw c.columns.ensures.columns at c.in_ok-columns.ensures in
    let t = table-or_absent c.self.inside.schema c.self.inside.count c.self.inside.columns.items c.in_ok-columns.columns.items c.args.places.now c.self.invariant.0 (rw (← c.self.view_is) at c.requires) made in
    record { rows = rw (← c.self.view_is) (same-grid _ _ _ _ c.in_ok-schema.ensures.same t.1) }
