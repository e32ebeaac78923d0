use Rattle.std.proofs.Common.{◌≡◌, ◌++◌, refl, ◌∙◌}
use Rattle.kql_values.proofs.TableLaws.{same-grid, table-beside}
use Rattle.kql_values.proofs.table.Table.beside.Goals as goal

pub invariant_of-result : goal.invariant_of-result
invariant_of-result c =
    let cs = c.self.inside.schema in
    let ds = c.other.inside.schema in
    let names : c.from_items.result ≡ cs ++ ds = c.from_items.ensures.columns ∙ c.in_ok-append.ensures.added ∙ rw (c.into_columns-names.ensures.columns, c.into_columns.ensures.columns) refl in
    let size = rw (← c.self.view_is, ← c.other.view_is) at c.requires.count in
    let t = table-beside cs ds c.from_items.result c.self.inside.count c.other.inside.count c.self.inside.columns.items c.other.inside.columns.items c.append-2.new.self.items c.self.invariant.0 c.other.invariant.0 size names c.in_ok-append-2.ensures.items in
    (t.0, c.self.invariant.1)

pub returns : goal.returns
returns c =
    let cs = c.self.inside.schema in
    let ds = c.other.inside.schema in
    let names : c.from_items.result ≡ cs ++ ds = c.from_items.ensures.columns ∙ c.in_ok-append.ensures.added ∙ rw (c.into_columns-names.ensures.columns, c.into_columns.ensures.columns) refl in
    let size = rw (← c.self.view_is, ← c.other.view_is) at c.requires.count in
    let t = table-beside cs ds c.from_items.result c.self.inside.count c.other.inside.count c.self.inside.columns.items c.other.inside.columns.items c.append-2.new.self.items c.self.invariant.0 c.other.invariant.0 size names c.in_ok-append-2.ensures.items in
    record { columns = rw (← c.self.view_is, ← c.other.view_is) (same-grid _ _ _ _ names t.1) }
