use Rattle.std.proofs.Common.{arith, length}
use Rattle.std.specs.Prelude.{Some}
use Rattle.window_ops.specs.Running.{restart_at, term_at}
use Rattle.window_ops.proofs.RunSteps.{run-few, sum-turn, sums-turn}
use Rattle.window_ops.proofs.running.running_sums.Goals as goal

pub with_row-next-requires : goal.with_row-next-requires
with_row-next-requires c = record {
  few = run-few (restart_at c.args.restarts.now) (term_at (Some c.args.terms.now)) c.args.before.now c.rows.i (length c.args.terms.now) c.rows.run c.rows.invariant.run (omega (arith, c.rows-test.true, c.len-i-end.ensures.count)) c.requires.few;
}

pub rows-preserved : goal.rows-preserved
rows-preserved c =
    let run = sum-turn c.args.restarts.now c.args.terms.now c.args.before.now c.rows.i c.rows.run c.with_row-next.result c.restarts_at.result _ c.number_of.result c.rows.invariant.run c.restarts_at.ensures c.cell.ensures.same c.number_of.ensures c.with_row-next.ensures.row in
    record {
      made = sums-turn c.args.kind c.args.restarts.now c.args.terms.now c.args.before.now c.rows.i c.rows.sums c.push_cell.new.self c.with_row-next.result _ c.rows.invariant.made run c.sum_cell.ensures c.in_ok-push_cell.ensures.added;
      run = run;
    }
