use Rattle.std.proofs.Common.{ap, ◌∙◌}
use Rattle.kql_cells.specs.Seen.{value_at}
use Rattle.kql_values.proofs.GridLaws.{row-step}
use Rattle.kql_values.proofs.vectors.copy_row_of.Goals as goal

pub loop-column-preserved : goal.loop-column-preserved
loop-column-preserved c =
    let value = c.deref-column-items.ensures.value in
    let before = rw (← value) at c.loop-column.invariant in
    rw (← value) (row-step c.deref-column-items.result.now c.loop-column.column-index c.args.i c.column-item.result _ _ _ c.loop-column-test.true before (c.in_ok-to_value.ensures.same ∙ c.cell.ensures.same ∙ ap (λ column. value_at column c.args.i) c.column-item.is) c.in_ok-push.ensures.added)
