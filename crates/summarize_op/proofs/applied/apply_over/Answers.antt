use Rattle.std.proofs.Common.{◌∙◌, ap, map, subst, sym}
use Rattle.kql_cells.specs.Seen.{seen}
use Rattle.kql_scalar_fns.specs.Applied.{applied}
use Rattle.kql_scalar_fns.specs.Arguments.{AreWellFormed}
use Rattle.summarize_op.proofs.AppliedSteps.{applied-more, more-forms}
use Rattle.summarize_op.proofs.applied.apply_over.Goals as goal

pub loop-g-preserved : goal.loop-g-preserved
loop-g-preserved c = record {
  made = applied-more c.args.f c.args.vectors.now c.loop-g.g c.in_ok-cells.cells.items c.in_ok-value.value c.loop-g.made c.push.new.self c.in_ok-cells.ensures.cells c.loop-g.invariant.made (c.in_ok-value.ensures.value ∙ ap (λ xs. applied c.args.f (map seen xs)) c.as_slice.ensures.value) c.in_ok-push.ensures.added;
  form = subst AreWellFormed (sym c.in_ok-push.ensures.added) (more-forms c.loop-g.made c.in_ok-value.value c.loop-g.invariant.form c.in_ok-value.ensures.form);
}
