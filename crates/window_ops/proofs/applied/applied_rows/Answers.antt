use Rattle.window_ops.proofs.AppliedSteps.{applied-turn, forms-turn}
use Rattle.window_ops.proofs.applied.applied_rows.Goals as goal

pub rows-preserved : goal.rows-preserved
rows-preserved c = record {
  made = applied-turn c.args.f c.args.args.now c.rows.i c.rows.values c.push.new.self c.in_ok-value.value c.rows.invariant.made c.in_ok-value.ensures.value c.in_ok-push.ensures.added;
  form = forms-turn c.rows.values c.push.new.self c.in_ok-value.value c.rows.invariant.form c.in_ok-value.ensures.form c.in_ok-push.ensures.added;
}
