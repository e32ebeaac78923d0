use Rattle.std.proofs.Common.{subst, sym}
use Rattle.kql_cells.specs.Seen.{seen}
use Rattle.kql_scalar_fns.specs.Arguments.{AreWellFormed}
use Rattle.summarize_op.proofs.AppliedSteps.{both-more, more-forms}
use Rattle.summarize_op.proofs.applied.apply_to_both.Goals as goal

pub loop-g-preserved : goal.loop-g-preserved
loop-g-preserved c = record {
  made = both-more c.args.f c.args.left.now c.args.right.now c.loop-g.g (seen c.cell-a.result) (seen c.cell-b.result) c.in_ok-value.value c.loop-g.made c.push.new.self c.cell-a.ensures.same c.cell-b.ensures.same c.loop-g.invariant.made c.in_ok-value.ensures.value c.in_ok-push.ensures.added;
  form = subst AreWellFormed (sym c.in_ok-push.ensures.added) (more-forms c.loop-g.made c.in_ok-value.value c.loop-g.invariant.form c.in_ok-value.ensures.form);
}
