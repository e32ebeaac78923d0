use Rattle.std.proofs.Common.{◌∙◌, ap, sym}
use Rattle.std.specs.Ordering.{ordering_reverse}
use Rattle.kql_cells.proofs.OrderLaws.{equal-same, same-equal, value_cmp_total}
use Rattle.kql_cells.proofs.order.order_of.Goals as goal

pub returns-clause-same : goal.returns-clause-same
returns-clause-same c =
    let e = rw (c.as_cell.ensures.same, c.as_cell-2.ensures.same) at c.order_cells.ensures.order in
    λ h. (λ q. equal-same c.args.a.now c.args.b.now h (sym e ∙ q), λ q. e ∙ same-equal c.args.a.now c.args.b.now q)

pub returns-clause-turned : goal.returns-clause-turned
returns-clause-turned c =
    let e = rw (c.as_cell.ensures.same, c.as_cell-2.ensures.same) at c.order_cells.ensures.order in
    value_cmp_total.antisymm c.args.b.now c.args.a.now ∙ ap ordering_reverse (sym e)

pub returns-clause-total : goal.returns-clause-total
returns-clause-total c = value_cmp_total
