use Rattle.std.proofs.Common.{◌≡◌, ◌<◌, ℕ, length, map, ◌∙◌}
use Rattle.std.specs.Prelude.{All}
use Rattle.kql_values.specs.Moves.{column_of}
use Rattle.kql_values.proofs.TableLaws.{distinct-picked, same-grid, table-selected}
use Rattle.kql_values.proofs.table.Table.select.Goals as goal

pub from_items-requires : goal.from_items-requires
from_items-requires c =
    let cs = c.self.inside.schema in
    let within : All (λ (j : ℕ). j < length cs) c.args.places.now = rw (← c.self.view_is) at c.requires.within in
    distinct-picked cs c.in_ok-picked.picked c.args.places.now c.columns.ensures.distinct within c.requires.distinct (rw c.columns.ensures.columns at c.in_ok-picked.ensures)

pub invariant_of-result : goal.invariant_of-result
invariant_of-result c =
    let cs = c.self.inside.schema in
    let within : All (λ (j : ℕ). j < length cs) c.args.places.now = rw (← c.self.view_is) at c.requires.within in
    let names : c.from_items.result ≡ map (column_of cs) c.args.places.now = c.from_items.ensures.columns ∙ (rw c.columns.ensures.columns at c.in_ok-picked.ensures) in
    let t = table-selected cs c.from_items.result c.self.inside.count c.self.inside.columns.items c.in_ok-columns.columns.items c.args.places.now c.self.invariant.0 within names c.in_ok-columns.ensures in
    (t.0, c.self.invariant.1)

pub returns : goal.returns
returns c =
    let cs = c.self.inside.schema in
    let within : All (λ (j : ℕ). j < length cs) c.args.places.now = rw (← c.self.view_is) at c.requires.within in
    let names : c.from_items.result ≡ map (column_of cs) c.args.places.now = c.from_items.ensures.columns ∙ (rw c.columns.ensures.columns at c.in_ok-picked.ensures) in
    let t = table-selected cs c.from_items.result c.self.inside.count c.self.inside.columns.items c.in_ok-columns.columns.items c.args.places.now c.self.invariant.0 within names c.in_ok-columns.ensures in
    record { columns = rw (← c.self.view_is) (same-grid _ _ _ _ names t.1) }
