use Rattle.std.proofs.Common.{◌≡◌}
use Rattle.kql_scalar_fns.specs.Arguments.{AreWellFormed}
use Rattle.summarize_op.specs.Grouped.{applied_to_both}
use Rattle.summarize_op.proofs.applied.apply_to_both.Given as goal

abbrev pub invariant-loop-g : goal.invariant-loop-g
invariant-loop-g l = record {
  made : l.made ≡ applied_to_both l.f l.left l.right l.g;
  form : AreWellFormed l.made;
}
