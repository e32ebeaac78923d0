use Rattle.std.proofs.Common.{◌≡◌, length, map, sym, ◌∙◌}
use Rattle.std.proofs.lemmas.List.{length-map}
use Rattle.kql_cells.specs.Seen.{seen}
use Rattle.kql_values.proofs.GridLaws.{pushed}
use Rattle.kql_values.proofs.rows.Rows.push_cells.Goals as goal

pub invariant_of-self-2 : goal.invariant_of-self-2
invariant_of-self-2 c =
    let width : length c.fit_columns.new.columns.items ≡ length (map seen c.args.row.now) = c.in_ok-fit_columns.ensures.width ∙ sym (length-map c.args.row.now seen) in
    let whole = pushed c.self.inside.count c.fit_columns.new.columns.items c.push_to_each.new.columns.items (map seen c.args.row.now) width c.in_ok-fit_columns.ensures.long c.in_ok-push_to_each.ensures.added in
    (rw c.in_ok-count.ensures.sum.0 whole.0, c.in_ok-count.ensures.sum.1)

pub returns-clause-added : goal.returns-clause-added
returns-clause-added c =
    let width : length c.fit_columns.new.columns.items ≡ length (map seen c.args.row.now) = c.in_ok-fit_columns.ensures.width ∙ sym (length-map c.args.row.now seen) in
    let whole = pushed c.self.inside.count c.fit_columns.new.columns.items c.push_to_each.new.columns.items (map seen c.args.row.now) width c.in_ok-fit_columns.ensures.long c.in_ok-push_to_each.ensures.added in
    rw (← c.self.view_is, c.in_ok-count.ensures.sum.0, ← c.in_ok-fit_columns.ensures.rows) whole.1
