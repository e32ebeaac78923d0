use Rattle.std.proofs.Common.{refl, rules}
use Rattle.kql_values.proofs.TableLaws.{same-grid, table-gathered}
use Rattle.kql_values.proofs.table.Table.keep.Goals as goal

pub invariant_of-self : goal.invariant_of-self
invariant_of-self c =
    let t = table-gathered c.self.inside.schema c.self.inside.count c.self.inside.columns.items c.in_ok-self-inside.field-0.items c.args.places.now c.self.invariant.0 (rw (← c.self.view_is) at c.requires) c.in_ok-self-inside.ensures in
    (t.0, search rules)

pub returns-clause-rows : goal.returns-clause-rows
returns-clause-rows c =
    let t = table-gathered c.self.inside.schema c.self.inside.count c.self.inside.columns.items c.in_ok-self-inside.field-0.items c.args.places.now c.self.invariant.0 (rw (← c.self.view_is) at c.requires) c.in_ok-self-inside.ensures in
    rw (← c.self.view_is) (same-grid _ _ _ _ refl t.1)
