use Rattle.std.proofs.Common.{◌≡◌, ◌∙◌, ap, refl, rules, sym}
use Rattle.csv_io.proofs.FieldFacts.{is-empty, is-filled, read-dynamic, read-empty, read-value}
use Rattle.kql_cells.specs.declared.value.Kind.TheVariants as kind
use Rattle.kql_values.specs.Growing.{with_cell}
use Rattle.csv_io.proofs.rows.read_cell.Goals as goal

pub returns-then-is_empty-clause-read : goal.returns-then-is_empty-clause-read
returns-then-is_empty-clause-read c =
    let none = sym c.bare-text.ensures ∙ is-empty c.bare-text.result.now c.is_empty.result c.is_empty.ensures c.if-is_empty.true in
    ((read-empty c.args.kind c.args.row c.args.column c.args.text.now none).0, refl)

pub returns-then-is_empty-clause-added : goal.returns-then-is_empty-clause-added
returns-then-is_empty-clause-added c =
    let none = sym c.bare-text.ensures ∙ is-empty c.bare-text.result.now c.is_empty.result c.is_empty.ensures c.if-is_empty.true in
    let value = (read-empty c.args.kind c.args.row c.args.column c.args.text.now none).1 in
    c.in_ok-push_cell.ensures.added ∙ ap (with_cell c.args.table.now) (c.absent.ensures.value ∙ sym value)

pub returns-then-eq-clause-added : goal.returns-then-eq-clause-added
returns-then-eq-clause-added c =
    let some = rw c.bare-text.ensures at (is-filled c.bare-text.result.now c.is_empty.result c.is_empty.ensures c.if-is_empty.false) in
    let same : c.args.kind ≡ kind.Dynamic = search rules in
    let value = (read-dynamic c.args.kind c.args.row c.args.column c.args.text.now c.in_ok-parse_json.field-0 some same (rw c.bare-text.ensures at c.in_ok-parse_json.ensures.value)).1 in
    c.in_ok-push_value.ensures.added ∙ ap (with_cell c.args.table.now) (sym value)

pub returns-in_ok-push_cell-in-Some-clause-added : goal.returns-in_ok-push_cell-in-Some-clause-added
returns-in_ok-push_cell-in-Some-clause-added c =
    let some = rw c.bare-text.ensures at (is-filled c.bare-text.result.now c.is_empty.result c.is_empty.ensures c.if-is_empty.false) in
    let value = (read-value c.args.kind c.args.row c.args.column c.args.text.now _ some (rw c.bare-text.ensures at (sym c.in-Some.ensures.value))).1 in
    c.in_ok-push_cell-in-Some.ensures.added ∙ ap (with_cell c.args.table.now) (sym value)
