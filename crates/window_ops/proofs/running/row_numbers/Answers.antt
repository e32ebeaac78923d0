use Rattle.std.specs.Prelude.{None}
use Rattle.window_ops.specs.Running.{restart_at, term_at}
use Rattle.window_ops.proofs.RunSteps.{run-few, stepped-some}
use Rattle.window_ops.proofs.running.row_numbers.Goals as goal

pub with_row-next-requires : goal.with_row-next-requires
with_row-next-requires c = record {
  few = run-few (restart_at c.args.restarts.now) (term_at None) c.args.before.now c.rows.i c.args.count c.rows.run c.rows.invariant.run c.rows-test.true c.requires.few;
}

pub overflow_sub-count : goal.overflow_sub-count
overflow_sub-count c = stepped-some _ _ _ _ _ c.with_row-next.ensures.row c.count.ensures.count
