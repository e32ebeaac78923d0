use Rattle.std.proofs.Common.{◌≡◌, ◌<◌, [], sym, ap, ◌∙◌, arith}
use Rattle.std.proofs.lemmas.List.{append-nil}
use Rattle.kql_values.specs.Grids.{rows_of}
use Rattle.kql_values.proofs.GridLaws.{appended, rows_of-none, widths-same}
use Rattle.kql_values.proofs.rows.Rows.append.Goals as goal

pub returns-then-more-eq0-clause-added : goal.returns-then-more-eq0-clause-added
returns-then-more-eq0-clause-added c =
    let none : c.args.more ≡ [] = sym c.more.view_is ∙ ap (λ n. rows_of n c.more.inside.columns.items) c.if-more-eq0.true ∙ rows_of-none _ in
    rw none (sym (append-nil c.args.self.now))

pub append_to_each-requires-clause-width : goal.append_to_each-requires-clause-width
append_to_each-requires-clause-width c =
    let some : 0 < c.self.inside.count = omega (arith, c.if-self-eq0.false) in
    let more : 0 < c.more.inside.count = omega (arith, c.if-more-eq0.false) in
    widths-same c.self.inside.count c.more.inside.count _ _ some more (rw (← c.self.view_is, ← c.more.view_is) at c.requires)

pub invariant_of-self-2 : goal.invariant_of-self-2
invariant_of-self-2 c =
    let some : 0 < c.self.inside.count = omega (arith, c.if-self-eq0.false) in
    let more : 0 < c.more.inside.count = omega (arith, c.if-more-eq0.false) in
    let width = widths-same c.self.inside.count c.more.inside.count _ _ some more (rw (← c.self.view_is, ← c.more.view_is) at c.requires) in
    let whole = appended c.self.inside.count c.more.inside.count c.self.inside.columns.items c.more.inside.columns.items c.append_to_each.new.columns.items width c.self.invariant.0 c.more.invariant.0 c.in_ok-append_to_each.ensures.added in
    (rw c.in_ok-count.ensures.sum.0 whole.0, c.in_ok-count.ensures.sum.1)

pub returns-clause-added : goal.returns-clause-added
returns-clause-added c =
    let some : 0 < c.self.inside.count = omega (arith, c.if-self-eq0.false) in
    let more : 0 < c.more.inside.count = omega (arith, c.if-more-eq0.false) in
    let width = widths-same c.self.inside.count c.more.inside.count _ _ some more (rw (← c.self.view_is, ← c.more.view_is) at c.requires) in
    let whole = appended c.self.inside.count c.more.inside.count c.self.inside.columns.items c.more.inside.columns.items c.append_to_each.new.columns.items width c.self.invariant.0 c.more.invariant.0 c.in_ok-append_to_each.ensures.added in
    rw (← c.self.view_is, ← c.more.view_is, c.in_ok-count.ensures.sum.0) whole.1
