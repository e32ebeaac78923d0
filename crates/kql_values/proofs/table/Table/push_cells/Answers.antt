use Rattle.std.proofs.Common.{map, refl, ◌∙◌}
use Rattle.std.proofs.lemmas.List.{length-map}
use Rattle.kql_cells.specs.Seen.{seen}
use Rattle.kql_cells.specs.Table.{RowFits}
use Rattle.kql_values.proofs.TableLaws.{row-width, same-grid, table-pushed}
use Rattle.kql_values.proofs.table.Table.push_cells.Goals as goal

pub push_to_each-requires-clause-width : goal.push_to_each-requires-clause-width
push_to_each-requires-clause-width c =
    let row : RowFits c.self.inside.schema (map seen c.args.row.now) = rw (← c.self.view_is) at c.requires in
    row-width c.self.inside.schema c.self.inside.count c.self.inside.columns.items (map seen c.args.row.now) c.self.invariant.0 row ∙ length-map c.args.row.now seen

pub invariant_of-self-2 : goal.invariant_of-self-2
invariant_of-self-2 c =
    let row : RowFits c.self.inside.schema (map seen c.args.row.now) = rw (← c.self.view_is) at c.requires in
    let t = table-pushed c.self.inside.schema c.self.inside.count c.in_ok-count.count c.self.inside.columns.items c.push_to_each.new.columns.items (map seen c.args.row.now) c.self.invariant.0 row c.in_ok-count.ensures.sum.0 c.in_ok-push_to_each.ensures.added in
    (t.0, c.in_ok-count.ensures.sum.1)

pub returns-clause-added : goal.returns-clause-added
returns-clause-added c =
    let row : RowFits c.self.inside.schema (map seen c.args.row.now) = rw (← c.self.view_is) at c.requires in
    let t = table-pushed c.self.inside.schema c.self.inside.count c.in_ok-count.count c.self.inside.columns.items c.push_to_each.new.columns.items (map seen c.args.row.now) c.self.invariant.0 row c.in_ok-count.ensures.sum.0 c.in_ok-push_to_each.ensures.added in
    rw (← c.self.view_is) (same-grid _ _ _ _ refl t.1)
