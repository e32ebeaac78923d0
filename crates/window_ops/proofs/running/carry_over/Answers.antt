use Rattle.window_ops.specs.Running.{restart_at, term_at}
use Rattle.window_ops.proofs.RunSteps.{run-few}
use Rattle.window_ops.proofs.running.carry_over.Goals as goal

pub with_row-next-requires : goal.with_row-next-requires
with_row-next-requires c = record {
  few = run-few (restart_at c.args.restarts.now) (term_at c.args.terms.now) c.args.before.now c.rows.i c.args.count c.rows.run c.rows.invariant c.rows-test.true c.requires.few;
}
